-- Fields that are terms: the terms read from them are the terms written, and back.
use mathlib.Core.Path.{◌≡◌, refl, ap}
use mathlib.Core.Bool.{true}
use mathlib.Core.List.{List, [], ◌∷◌}
use Prim.Native.Nat.{suc}
use lib.ListN.{length}
use Rattle.theory.specs.Lists.{every}
use Rattle.theory.specs.Text.{Bytes}
use Rattle.theory.specs.Terms.{Terms, variable, nil, cons, arity, AllWellFormed, WrittenAs, written_term, read_term}
use Rattle.theory.specs.Packs.{term_fields}
use Rattle.theory.specs.Written.{terms_from}
use Rattle.theory.specs.Faults.{is_term}
use Rattle.theory.proofs.Reading.Every.{every_first, every_rest, every_cons}
use Rattle.theory.proofs.Reading.FieldValues.{value_of, value_read}
use Rattle.theory.proofs.Reading.PlainFields.{Plain, plain_nil, plain_cons}
use Rattle.theory.proofs.Reading.Presence.{some_is}
use Rattle.theory.proofs.Reading.TermReading.{read_of_written, written_of_read, term_bytes}

first_written : (f : Bytes) (fs : List Bytes) → every is_term (f ∷ fs) ≡ true → WrittenAs (value_of read_term (variable []) f) f
first_written f fs h = written_of_read f (value_of read_term (variable []) f) (value_read read_term (variable []) f (every_first is_term f fs h))

pub terms_written : (fs : List Bytes) → every is_term fs ≡ true → term_fields (terms_from fs) ≡ fs
unfolding terms_from term_fields
terms_written [] h = refl
terms_written (f ∷ fs) h = rw (← (first_written f fs h).is, terms_written fs (every_rest is_term f fs h))

pub terms_formed : (fs : List Bytes) → every is_term fs ≡ true → AllWellFormed (terms_from fs)
unfolding terms_from
terms_formed [] h = tt
terms_formed (f ∷ fs) h = ((first_written f fs h).formed, terms_formed fs (every_rest is_term f fs h))

pub terms_arity : (fs : List Bytes) → arity (terms_from fs) ≡ length fs
unfolding terms_from arity
terms_arity [] = refl
terms_arity (f ∷ fs) = ap suc (terms_arity fs)

pub written_terms : (ts : Terms) → AllWellFormed ts → terms_from (term_fields ts) ≡ ts
unfolding terms_from term_fields
written_terms nil h = refl
written_terms (cons t ts) h = rw (read_of_written t h.0, written_terms ts h.1)

pub written_are_terms : (ts : Terms) → AllWellFormed ts → every is_term (term_fields ts) ≡ true
unfolding term_fields every
written_are_terms nil h = refl
written_are_terms (cons t ts) h =
    every_cons is_term (written_term t) (term_fields ts) (some_is (read_term (written_term t)) t (read_of_written t h.0)) (written_are_terms ts h.1)

pub written_arity : (ts : Terms) → length (term_fields ts) ≡ arity ts
unfolding term_fields arity
written_arity nil = refl
written_arity (cons t ts) = ap suc (written_arity ts)

pub terms_plain : (ts : Terms) → AllWellFormed ts → Plain (term_fields ts)
unfolding term_fields
terms_plain nil h = plain_nil
terms_plain (cons t ts) h = plain_cons (term_bytes t h.0) (terms_plain ts h.1)
