-- Real days of the years 2000 to 2099, written as eight digits: year, month, day.
use Rattle.std.specs.Prelude.{ℕ, ◌/◌, ◌%◌, Bool, cond, not, ◌&&◌, ◌||◌, ◌==◌, nat_le}

-- a year of the Gregorian calendar with a 29th of February
abbrev pub is_leap : ℕ → Bool
is_leap year = year % 4 == 0 && (not (year % 100 == 0) || year % 400 == 0)

abbrev pub days_in : ℕ → ℕ → ℕ
days_in year month = cond (month == 2) (cond (is_leap year) 29 28) (cond (month == 4 || (month == 6 || (month == 9 || month == 11))) 30 31)

abbrev pub is_day_of : ℕ → ℕ → ℕ → Bool
is_day_of year month day = nat_le 2000 year && (nat_le year 2099 && (nat_le 1 month && (nat_le month 12 && (nat_le 1 day && nat_le day (days_in year month)))))

-- the eight digits are a real day of 2000 to 2099
abbrev pub is_day : ℕ → Bool
is_day date = is_day_of (date / 10000) (date / 100 % 100) (date % 100)
