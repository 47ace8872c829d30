-- What `word_of` answers: a field, of which the table tells the classes.
use mathlib.Core.Path.{◌≡◌, sym, ◌∙◌, ap}
use mathlib.Core.Bool.{true}
use Prim.Native.Nat.{ℕ, ◌≤◌, ◌<◌}
use native.Mathlib.Omega.{arith}
use lib.ListN.{length, get_or}
use Rattle.groundwork.proofs.Truth.{and_not_left}
use Rattle.theory.specs.Lists.{every}
use Rattle.theory.specs.Text.{Bytes, is_name_byte}
use Rattle.text.specs.Scans.{part}
use Rattle.text.proofs.Classes.{every_at, every_not_after}
use Rattle.words.specs.declared.Words.{Words}
use Rattle.words.specs.declared.Word.TheVariants.{Name, Variable, Neither}
use Rattle.words.specs.Classes.{class_of, EndsWord}
use Rattle.words.specs.declared.table.Class.TheVariants.{Outside, Small, Capital, Inner}
use Rattle.words.proofs.ClassLaws.{is_small, is_capital, lower_is, upper_is}
use Rattle.words.specs.Words.{words_of, WordRead}
use Rattle.words.proofs.FewBytes.{part_all}
use Rattle.words.proofs.WordReading.{read_empty, read_long, read_refused, read_lower, read_upper, read_neither}

module _ (s : Bytes) where
  pub field_empty : length s < 1 → WordRead s Neither
  field_empty none = read_empty s (omega arith)

  module _ (any : 1 ≤ length s) where
    some_byte : length s ≡ 0 → ⊥
    some_byte none = omega arith

    pub field_long : 16 < length s → WordRead s Neither
    field_long long = read_long s some_byte long

    module _ (e : ℕ) (ends : EndsWord s 0 e) where
      pub field_refused : e < length s → WordRead s Neither
      field_refused h = read_refused s some_byte (every_not_after is_name_byte s e (every_at is_name_byte s e h ∙ and_not_left _ _ (ends.ended h)))

      fine : length s ≤ e → every is_name_byte s ≡ true
      fine h =
          let all : e ≡ length s = omega (arith, ends.high) in
          ap (every is_name_byte) (sym (part_all s) ∙ ap (part s 0) (sym all)) ∙ ends.named

      module _ (short : length s ≤ 16) (all : length s ≤ e) (w : Words) (words : w ≡ words_of s) where
        pub field_name : class_of (get_or s 0 0) ≡ Small → WordRead s (Name w)
        field_name h = read_lower s some_byte (fine all) short w (sym words) (lower_is _ ∙ ap is_small h)

        pub field_variable : class_of (get_or s 0 0) ≡ Capital → WordRead s (Variable w)
        field_variable h = read_upper s some_byte (fine all) short w (sym words) (upper_is _ ∙ ap is_capital h)

    pub field_inner : class_of (get_or s 0 0) ≡ Inner → WordRead s Neither
    field_inner h = read_neither s some_byte (lower_is _ ∙ ap is_small h) (upper_is _ ∙ ap is_capital h)

    pub field_outside : class_of (get_or s 0 0) ≡ Outside → WordRead s Neither
    field_outside h = read_neither s some_byte (lower_is _ ∙ ap is_small h) (upper_is _ ∙ ap is_capital h)
