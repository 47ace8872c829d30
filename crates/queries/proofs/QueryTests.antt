-- The tests of a query, one after another: the first that finds its fault decides.
use mathlib.Core.Path.{◌≡◌, ◌∙◌, ap}
use mathlib.Core.Bool.{true, false, not, ◌&&◌}
use mathlib.Core.List.{[], ◌∷◌}
use mathlib.Core.Option.{some}
use lib.ListN.{length, drop}
use Rattle.groundwork.proofs.Truth.{and_both}
use Rattle.theory.specs.Lists.{every, is_some}
use Rattle.theory.specs.Text.{Bytes, is_name, fields_of}
use Rattle.theory.specs.Packs.{Predicate, Pack}
use Rattle.theory.specs.Written.{field}
use Rattle.theory.specs.Faults.{test, first_given, is_unfit}
use Rattle.theory.specs.Reserve.{query_of, size_from, size_given, meant_by_query, query_fault}
use Rattle.theory.proofs.Reading.Presence.{some_is}
use Rattle.theory.proofs.Judging.Tests.{first_passed, first_found}
use Rattle.queries.specs.Queries.{is_unasked}

module _ (p : Pack) (query : Bytes) where
  pub fault_four : is_unfit query ≡ true → query_fault p query ≡ 4
  unfolding query_fault
  fault_four unfit = first_found 4 _ _ unfit

  module _ (fit : is_unfit query ≡ false) where
    pub fault_fourteen : (is_name (field 0 (fields_of query)) && is_some (meant_by_query (fields_of query) p)) ≡ false → query_fault p query ≡ 14
    unfolding query_fault
    fault_fourteen finds = first_passed 4 _ _ fit ∙ first_found 14 _ _ (ap not finds)

    -- the predicate is declared
    module _ (is_named : is_name (field 0 (fields_of query)) ≡ true) (x : Predicate) (found : meant_by_query (fields_of query) p ≡ some x) where
      fourteen : not (is_name (field 0 (fields_of query)) && is_some (meant_by_query (fields_of query) p)) ≡ false
      fourteen = ap not (and_both _ _ is_named (some_is _ x found))

      pub fault_sixteen : is_unasked (length (query_of query).sizes) (field 1 (fields_of query)) ≡ true → query_fault p query ≡ 16
      unfolding query_fault query_of
      fault_sixteen finds = first_passed 4 _ _ fit ∙ first_passed 14 _ _ fourteen ∙ first_found 16 _ _ finds

      -- one of its arguments is asked for
      module _ (asks : is_unasked (length (query_of query).sizes) (field 1 (fields_of query)) ≡ false) where
        pub fault_seventeen : every (λ (f : Bytes). is_some (size_from f)) (drop 2 (fields_of query)) ≡ false → query_fault p query ≡ 17
        unfolding query_fault query_of
        fault_seventeen finds = first_passed 4 _ _ fit ∙ first_passed 14 _ _ fourteen ∙ first_passed 16 _ _ asks ∙ first_found 17 _ _ (ap not finds)

        -- each size is fine
        module _ (sizes : every (λ (f : Bytes). is_some (size_from f)) (drop 2 (fields_of query)) ≡ true) where
          past_seventeen : query_fault p query ≡ first_given (test 18 (is_some (size_given (query_of query).asked (query_of query))) ∷ [])
          unfolding query_fault query_of
          past_seventeen = first_passed 4 _ _ fit ∙ first_passed 14 _ _ fourteen ∙ first_passed 16 _ _ asks ∙ first_passed 17 _ _ (ap not sizes)

          pub fault_eighteen : is_some (size_given (query_of query).asked (query_of query)) ≡ true → query_fault p query ≡ 18
          fault_eighteen finds = past_seventeen ∙ first_found 18 _ _ finds

          pub faultless : is_some (size_given (query_of query).asked (query_of query)) ≡ false → query_fault p query ≡ 0
          unfolding first_given
          faultless finds = past_seventeen ∙ first_passed 18 _ [] finds
