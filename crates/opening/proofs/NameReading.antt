-- What `name_of` answers: the second field of a line, read as a name.
use mathlib.Core.Path.{◌≡◌, sym, ◌∙◌, ap, subst}
use mathlib.Core.Bool.{false}
use mathlib.Core.List.{[], ◌∷◌}
use Prim.Native.Nat.{ℕ, ◌+◌, ◌≤◌, ◌<◌}
use lib.ListN.{length, drop}
use lib.Seq.{get_or-drop, drop-drop}
use Rattle.std.specs.Prelude.{Some, None}
use Rattle.theory.specs.Text.{Bytes, is_word, is_name, fields_of}
use Rattle.theory.specs.Written.{field}
use Rattle.text.specs.Scans.{part, Finds, parts_from}
use Rattle.text.proofs.Cuts.{parts_done, parts_step}
use Rattle.words.specs.declared.Word.{Word}
use Rattle.words.specs.declared.Word.TheVariants.{Name}
use Rattle.words.specs.declared.Words.{Words}
use Rattle.words.specs.Words.{words_of, WordRead}
use Rattle.words.proofs.WordKinds.{is_name_word, name_told, read_words}
use Rattle.opening.specs.declared.Named.{Named}
use Rattle.opening.specs.Opening.{Begins, NameStands, NameRead}

never_some : {a : Named} → None ≡ Some a → ⊥
never_some e = cc

same_some : {a b : Named} → Some a ≡ Some b → a ≡ b
same_some e = cc

module _ (line : Bytes) (begins : Begins line) where
  -- the field is the first of those after the letter
  second_field : field 1 (fields_of line) ≡ field 0 (parts_from 44 line 2)
  second_field = sym (get_or-drop 1 (fields_of line) 0 []) ∙ ap (field 0) (sym begins.rest)

  unnamed : is_name (field 1 (fields_of line)) ≡ false → NameRead line None
  unnamed other = record { found = λ name e. absurd (never_some e); none = λ e. other }

  pub name_none : length line < 2 → NameRead line None
  unfolding is_word
  name_none h = unnamed (ap is_name (second_field ∙ ap (field 0) (parts_done 44 line 2 h)))

  module _ (long : 2 ≤ length line) (stop : ℕ) (found : Finds line 44 2 stop) (word : Word) (read : WordRead (part line 2 stop) word) where
    cut : parts_from 44 line 2 ≡ part line 2 stop ∷ parts_from 44 line (stop + 1)
    cut = parts_step 44 line 2 stop long found

    second_part : field 1 (fields_of line) ≡ part line 2 stop
    second_part = second_field ∙ ap (field 0) cut

    told : is_name (field 1 (fields_of line)) ≡ is_name_word word
    told = ap is_name second_part ∙ name_told read

    -- a variable, or neither
    pub name_other : is_name_word word ≡ false → NameRead line None
    name_other is = unnamed (told ∙ is)

    pub name_found : (words : Words) → word ≡ Name words → NameRead line (Some (record { words = words; stop = stop }))
    name_found words is =
        let same : words ≡ words_of (field 1 (fields_of line)) = read_words (part line 2 stop) word words read is ∙ ap words_of (sym second_part) in
        record {
          found = λ name e.
              subst (NameStands line) (same_some e)
              (record {
                named = told ∙ ap is_name_word is;
                words = same;
                stop = found.high;
                rest = sym (sym (drop-drop 1 1 (fields_of line)) ∙ ap (drop 1) (sym begins.rest ∙ cut));
              });
          none = λ e. absurd (never_some (sym e));
        }
