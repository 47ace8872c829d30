-- A query's fields by their places: the name, the asked argument's number, the sizes.
use mathlib.Core.Path.{◌≡◌, sym, ◌∙◌, ap}
use mathlib.Core.List.{List, [], ◌∷◌, map}
use mathlib.Core.Option as M
use mathlib.Core.Option.{none}
use Prim.Native.Nat.{ℕ, ◌+◌, ◌-◌, ◌≤◌, ◌<◌}
use native.Mathlib.Decide.{dec_lt}
use native.Mathlib.Omega.{arith}
use lib.ListN.{length, get_or, take, drop, length-map, get_or-map}
use Rattle.std.specs.Prelude.{Option}
use Rattle.theory.specs.Text.{Bytes, bytes, same, is_decimal, natural, fields_of}
use Rattle.theory.specs.Written.{field}
use Rattle.theory.specs.Reserve.{query_from, query_of, size_from}
use Rattle.text.specs.Scans.{part, Finds, parts_from}
use Rattle.text.proofs.Cuts.{parts_all, parts_done, parts_step}
use Rattle.queries.specs.Queries.{entry_of, FineSizes, SizesStand}
use Rattle.queries.proofs.SizeFields.{size_entry}

module _ (query : Bytes) (stop : ℕ) (first : Finds query 44 0 stop) where
  name_off : fields_of query ≡ take stop query ∷ parts_from 44 query (stop + 1)
  name_off =
      let whole : stop - 0 ≡ stop = omega arith in
      sym (parts_all 44 query) ∙ parts_step 44 query 0 stop (omega arith) first ∙ ap (λ (n : ℕ). take n query ∷ parts_from 44 query (stop + 1)) whole

  pub name_field : field 0 (fields_of query) ≡ take stop query
  name_field = ap (field 0) name_off

  module _ (more : 1 < length (fields_of query)) where
    pub asked_inside : stop + 1 ≤ length query
    asked_inside = by (dec_lt (length query) (stop + 1))
      where
        by : Dec (length query < stop + 1) → stop + 1 ≤ length query
        by (yes past) = absurd (omega (arith, ap length name_off, ap length (parts_done 44 query (stop + 1) past)))
        by (no inside) = omega arith

    module _ (end : ℕ) (second : Finds query 44 (stop + 1) end) where
      asked_off : fields_of query ≡ take stop query ∷ part query (stop + 1) end ∷ parts_from 44 query (end + 1)
      asked_off = name_off ∙ ap (λ (rest : List Bytes). take stop query ∷ rest) (parts_step 44 query (stop + 1) end asked_inside second)

      pub asked_field : field 1 (fields_of query) ≡ part query (stop + 1) end
      asked_field = ap (field 1) asked_off

      pub size_fields : drop 2 (fields_of query) ≡ parts_from 44 query (end + 1)
      size_fields = ap (drop 2) asked_off

      pub size_count : length (parts_from 44 query (end + 1)) + 2 ≡ length (fields_of query)
      size_count = omega (arith, ap length asked_off)

-- ---- the sizes given

abbrev size_of : Bytes → M.Option ℕ
size_of f = M.get_or (size_from f) none

module _ (query : Bytes) (from : ℕ) (rest : drop 2 (fields_of query) ≡ parts_from 44 query from) where
  given : (query_of query).sizes ≡ map size_of (parts_from 44 query from)
  unfolding query_of query_from
  given = ap (map size_of) rest

  pub given_count : length (query_of query).sizes ≡ length (parts_from 44 query from)
  given_count = ap length given ∙ length-map (parts_from 44 query from) size_of

  -- the size at a place is that of the field there
  pub given_at : (i : ℕ) → get_or (query_of query).sizes i none ≡ M.get_or (size_from (get_or (parts_from 44 query from) i [])) none
  unfolding size_from bytes same natural is_decimal
  given_at i = ap (λ (sizes : List (M.Option ℕ)). get_or sizes i none) given ∙ get_or-map size_of (parts_from 44 query from) i []

  pub given_stand : {sizes : List (Option ℕ)} → FineSizes query from sizes → SizesStand sizes (query_of query).sizes
  given_stand read = record { entry = λ i h. size_entry _ (read.entry i (omega (arith, given_count))) ∙ ap entry_of (sym (given_at i)) }
