-- The page is large enough: each query prints at most nine bytes for each byte of its line, byte 10 included.
use mathlib.Core.Path.{◌≡◌, refl, sym}
use mathlib.Core.List.{[], ◌∷◌}
use Prim.Native.Nat.{ℕ, ◌+◌, ◌*◌, ◌≤◌}
use native.Mathlib.Omega.{arith}
use lib.ListN.{length}
use Rattle.theory.specs.Text.{Bytes, fields_of}
use Rattle.theory.specs.Packs.{text_of}
use Rattle.theory.specs.Written.{pack_of}
use Rattle.theory.specs.Reserve.{Fields, fields, query_of, reserve_of}
use Rattle.theory.specs.Program.{printed_fields}
use Rattle.theory.specs.Answers.{refusal_numbers, query_number, reserved_fields}
use Rattle.theory.specs.declared.Reservation.{Reservation}
use Rattle.theory.specs.declared.Reservation.TheVariants.{Bounded, NoBound, Impossible, PackRefused, QueryRefused}
use Rattle.theory.proofs.Judging.LineKeys.{sizes_count}
use Rattle.theory.proofs.Judging.Acceptance.{accepted_pack}
use Rattle.theory.proofs.Reserving.RefusalNumbers.{refusal_number, query_number_lem}
use Rattle.theory.proofs.Reserving.ReserveAnswers.{Answered, answered, asks}
use Rattle.theory.proofs.Reading.TermLengths.{parts_count}
use Rattle.theory.proofs.Reading.Digits.{digits_one, digits_few}
use Rattle.replies.proofs.PrintedLines.{fields_length}

-- a query that is answered has two commas at least
answered_long : (text query : Bytes) (x : Fields) → Answered text query x → 2 ≤ length query
unfolding query_of
answered_long text query x a =
    let p = pack_of text in
    let k = asks p (accepted_pack text a.accepted).fits.formed.predicates query a.faultless in
    omega (arith, k.within, sizes_count (fields_of query), parts_count 44 query)

-- (no refusal has a number of three digits)
refused_short : (n : ℕ) → n ≤ 99 → length (text_of (printed_fields (fields 82 n 0) ∷ [])) ≤ 7
refused_short n h = omega (arith, fields_length 82 n 0, digits_few 1 n (omega arith), digits_one 0 (omega arith))

pub line_fits_lem : (text query : Bytes) (answer : Reservation) (q : ℕ) → reserved_fields answer ≡ reserve_of text query → q ≡ length (text_of (printed_fields (reserved_fields answer) ∷ [])) → q ≤ 27 → q ≤ 9 * (length query + 1)
line_fits_lem text query (Bounded b) q is many few = omega (arith, answered_long text query _ (answered text query (reserved_fields (Bounded b)) refl (sym is)))
line_fits_lem text query NoBound q is many few = omega (arith, fields_length 78 0 0, digits_one 0 (omega arith))
line_fits_lem text query (Impossible c) q is many few = omega (arith, answered_long text query _ (answered text query (reserved_fields (Impossible c)) refl (sym is)))
line_fits_lem text query (PackRefused r) q is many few = omega (arith, refused_short (refusal_numbers r).number (omega (arith, refusal_number r)))
line_fits_lem text query (QueryRefused r) q is many few = omega (arith, refused_short (query_number r) (omega (arith, query_number_lem r)))
