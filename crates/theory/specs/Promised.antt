-- All that is promised of check, reserve, measure, the program, the C words and the sheet, closed: of every text, area, query, term,
-- page and given facts, with every premise. Proved once, in proofs/Promised. (What is promised of import is in Imported.)
use Rattle.std.specs.Prelude.{◌≡◌, false, List, ℕ, ℤ}
use Rattle.theory.specs.Text.{Bytes}
use Rattle.theory.specs.Terms.{Term, Substitution}
use Rattle.theory.specs.Sizes.{Measure}
use Rattle.theory.specs.Forms.{Form}
use Rattle.theory.specs.Packs.{Claim, Atom}
use Rattle.theory.specs.Written.{nothing, write_all}
use Rattle.theory.specs.Faults.{whole}
use Rattle.theory.specs.Check.{refusal_of}
use Rattle.theory.specs.ResidualsTold.{ClaimTold, ResidualTold, VariablesTold, NumbersTold}
use Rattle.theory.specs.LinesTold.{applying, LineTold}
use Rattle.theory.specs.LettersTold.{LetterTold}
use Rattle.theory.specs.TextTold.{TextPromised}
use Rattle.theory.specs.MeasureTold.{MeasureTold}
use Rattle.theory.specs.ReplyTold.{ReplyTold}
use Rattle.theory.specs.Words.{WordFactors}
use Rattle.theory.specs.Sheet.{SheetPromised}
use Rattle.theory.specs.Answers.{passed_on}
use Rattle.theory.specs.Outcomes.{AllFine, TextLengthTold}
use Rattle.theory.specs.Queries.{QueriesTold, ReserveTold}
use Rattle.theory.specs.Ranges.{FormsFit}
use Rattle.theory.specs.Witnesses.{Witnessed}
use Rattle.theory.specs.Promises.{SectionForm, SizeUnder, ShareNothing, DemandOne, DemandTwo, ButForHeads, DemandThree, RightCase, WordsTell}
use Rattle.theory.specs.declared.Reservation.{Reservation}

-- What sizes, claims and residuals are. Nothing here speaks of a text.
pub record SizesPromised : Type 0 where
  pub sections : (t : Term) → SectionForm t
  pub substituted : (m : Measure) (σ : Substitution) (t : Term) → SizeUnder m σ t
  pub claims : (m : Measure) (f : Atom) (c : Claim) → ClaimTold m f c
  pub residuals : (m : Measure) (claims : List Claim) (head : Atom) (subgoals : List Atom) (claim : Claim) (multipliers : List ℕ) → ResidualTold m claims head subgoals claim multipliers
  pub variables : (head : Atom) (subgoals : List Atom) → VariablesTold head subgoals
  pub numbers : (xs : List Bytes) (f : Form) → NumbersTold xs f

-- What is said of a line after others; by its letter, where these have no fault and no `E` is among them.
pub record LinesPromised : Type 0 where
  pub every : (before : List Bytes) (l : Bytes) → LineTold (write_all nothing before) l
  pub lettered : (before : List Bytes) (l : Bytes) → AllFine whole nothing before → (write_all nothing before).ended ≡ false
      → LetterTold (write_all nothing before).pack l (applying (write_all nothing before) l)

pub record Promised : Type 1 where
  -- what bytes spell, and how packs are looked up
  pub text : TextPromised
  -- demand 1
  pub check : (text : Bytes) (area : List ℤ) → DemandOne text area
  pub text_length : TextLengthTold
  pub lines : LinesPromised
  pub queries : (text query : Bytes) → QueriesTold text query
  pub reserve : (text query : Bytes) → ReserveTold text query
  pub measure : MeasureTold
  pub program : ReplyTold
  -- demand 2
  pub sizes : SizesPromised
  pub accepted : (text : Bytes) → DemandTwo text
  pub but_for_heads : (text : Bytes) → ButForHeads text
  pub names : (name : Bytes) (n other : ℕ) → (n ≡ other → ⊥) → ShareNothing name n other
  pub ranges : (text : Bytes) → FormsFit text
  -- demand 3
  pub derivations : (text : Bytes) → DemandThree text
  pub witnesses : Witnessed
  -- reserve's own answer, by the second promise of its contract; the words
  pub right_case : (text : Bytes) (answer : Reservation) → passed_on answer ≡ refusal_of text → RightCase text answer
  pub words : (text : Bytes) (area : List ℤ) (query term : Bytes) → WordsTell text area query term
  pub factors : WordFactors
  -- 02, 2/14
  pub sheets : SheetPromised
