-- That a result says what the questions to its session answer.
use Rattle.std.specs.Prelude.{◌≡◌, ℕ, ◌<◌, length, Ok}
use Rattle.terms.specs.Dockets.{roll_of}
use Rattle.session.specs.Parts.{docket_of}
use Rattle.session.specs.Questions.{cover_answer, position_answer}
use Rattle.session.specs.Settled.{withdrawn_in}
use Rattle.session.specs.declared.session.Session.{Session}
use Rattle.result.specs.Value.{line_at, withdrawn_of}

-- along the roll, each member's position and cover are what the questions answer for its code, and as many records are withdrawn as the
-- clearing answered
pub record Agrees (s : Session) : Type 0 where
  pub position : (i : ℕ) → i < length (roll_of (docket_of s)) → position_answer s (line_at s i).code ≡ Ok (line_at s i).position
  pub cover : (i : ℕ) → i < length (roll_of (docket_of s)) → cover_answer s (line_at s i).code ≡ Ok (line_at s i).cover
  pub count : length (withdrawn_of s) ≡ withdrawn_in s
