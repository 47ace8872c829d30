-- The loop of `read_sizes`: the size fields read so far stand in the table, and the others decide.
use mathlib.Core.Path.{◌≡◌, refl, sym, ◌∙◌, ap}
use mathlib.Core.Bool.{false, ◌&&◌}
use mathlib.Core.List.{List, [], ◌∷◌}
use Prim.Native.Nat.{ℕ, ◌+◌, ◌≤◌, ◌<◌}
use native.Mathlib.Decide.{dec_lt}
use native.Mathlib.Omega.{arith}
use borrow.Author.Count.{below_more}
use lib.ListN.{length, get_or, set, drop, length-set, drop_of_length-le}
use lib.Seq.{get_or-set_same, get_or-set_other, get_or-drop, drop-drop}
use Rattle.std.specs.Prelude.{Option, None, Ok, Err}
use Rattle.groundwork.proofs.Truth.{and_not_left}
use Rattle.theory.specs.Lists.{every, is_some}
use Rattle.theory.specs.Text.{Bytes}
use Rattle.theory.specs.Reserve.{size_from}
use Rattle.theory.specs.declared.QueryRefusal.{QueryRefusal}
use Rattle.theory.specs.declared.QueryRefusal.TheVariants.{SizeField}
use Rattle.text.specs.Scans.{part, Finds, parts_from}
use Rattle.text.proofs.Cuts.{parts_done, parts_step}
use Rattle.queries.specs.Queries.{size_read, are_sizes, FineSizes}
use Rattle.queries.proofs.SizeFields.{fine_size, no_size}

-- the fields before the one at place `at`, i of them, stand in the table
pub record SizesSoFar (query : Bytes) (from at i : ℕ) (sizes : List (Option ℕ)) : Type 0 where
  pub size : length sizes ≡ 8
  pub rest : parts_from 44 query at ≡ drop i (parts_from 44 query from)
  pub count : i + length (parts_from 44 query at) ≡ length (parts_from 44 query from)
  pub all : are_sizes (parts_from 44 query from) ≡ are_sizes (parts_from 44 query at)
  pub entry : (j : ℕ) → j < i → Ok (get_or sizes j None) ≡ size_read (size_from (get_or (parts_from 44 query from) j []))

module _ (query : Bytes) (from : ℕ) where
  pub sizes_none : (sizes : List (Option ℕ)) → length sizes ≡ 8 → SizesSoFar query from from 0 sizes
  sizes_none sizes size = record { size = size; rest = refl; count = omega arith; all = refl; entry = λ j h. absurd (omega arith) }

  module _ (at i : ℕ) (sizes : List (Option ℕ)) (read : SizesSoFar query from at i sizes) where
    module _ (less : i < length (parts_from 44 query from)) where
      pub sizes_inside : at ≤ length query
      sizes_inside = by (dec_lt (length query) at)
        where
          by : Dec (length query < at) → at ≤ length query
          by (yes past) = absurd (omega (arith, read.count, ap length (parts_done 44 query at past)))
          by (no inside) = omega arith

      module _ (stop : ℕ) (found : Finds query 44 at stop) where
        cut : parts_from 44 query at ≡ part query at stop ∷ parts_from 44 query (stop + 1)
        cut = parts_step 44 query at stop sizes_inside found

        here : part query at stop ≡ get_or (parts_from 44 query from) i []
        here =
            let place : i + 0 ≡ i = omega arith in
            ap (λ (fs : List Bytes). get_or fs 0 []) (sym cut ∙ read.rest) ∙ get_or-drop i (parts_from 44 query from) 0 [] ∙ ap (λ (n : ℕ). get_or (parts_from 44 query from) n []) place

        all_here : are_sizes (parts_from 44 query from) ≡ (is_some (size_from (part query at stop)) && are_sizes (parts_from 44 query (stop + 1)))
        unfolding every
        all_here = read.all ∙ ap are_sizes cut

        pub sizes_malformed : {f : QueryRefusal} → Err f ≡ size_read (size_from (part query at stop)) → (f ≡ SizeField) × (are_sizes (parts_from 44 query from) ≡ false)
        sizes_malformed is =
            let none = no_size (part query at stop) is in
            (none.0, all_here ∙ and_not_left _ _ none.1)

        pub sizes_more : {size : Option ℕ} → length (parts_from 44 query from) ≤ 8 → Ok size ≡ size_read (size_from (part query at stop)) → SizesSoFar query from (stop + 1) (i + 1) (set sizes i size)
        sizes_more {size} few is = record {
          size = length-set sizes i size ∙ read.size;
          rest = ap (drop 1) (sym cut ∙ read.rest) ∙ drop-drop 1 i (parts_from 44 query from);
          count = omega (arith, read.count, ap length cut);
          all = all_here ∙ rw (fine_size (part query at stop) is) refl;
          entry = below_more _ i
              (λ j h. ap Ok (get_or-set_other sizes i j size None (omega arith)) ∙ read.entry j h)
              (ap Ok (get_or-set_same sizes i size None (omega (arith, read.size))) ∙ is ∙ ap (λ (f : Bytes). size_read (size_from f)) here);
        }

    pub sizes_all : length (parts_from 44 query from) ≤ i → FineSizes query from sizes
    unfolding every
    sizes_all past =
        let none : parts_from 44 query at ≡ [] = drop_of_length-le (parts_from 44 query at) {i = 0} (omega (arith, read.count)) in
        record { fine = read.all ∙ ap are_sizes none; entry = λ j h. read.entry j (omega arith) }
