-- What `open_query` answers, by its ways out: refused by one of the tests, or passed.
use mathlib.Core.Path.{◌≡◌, refl, sym, ◌∙◌, ap}
use mathlib.Core.Bool.{Bool, true, false, ◌&&◌}
use mathlib.Core.List.{List}
use mathlib.Core.Option as M
use mathlib.Core.Option.{some, none}
use Prim.Native.Nat.{ℕ, ◌+◌, ◌-◌, ◌≤◌, ◌<◌}
use native.Mathlib.Omega.{arith}
use Rattle.std.specs.Prelude.{Option, Some, None}
use Rattle.std.specs.Option.{is_some as is_known}
use lib.ListN.{length, get_or, take, drop}
use Rattle.groundwork.proofs.Truth.{by_truth}
use Rattle.theory.specs.Lists.{is_some}
use Rattle.theory.specs.Text.{Bytes, is_name, natural, parts_at, fields_of}
use Rattle.theory.specs.Packs.{Pack, key_of}
use Rattle.theory.specs.Written.{field}
use Rattle.theory.specs.Faults.{less, is_unfit}
use Rattle.theory.specs.Reserve.{query_key, query_from, query_of, size_given, meant_by_query, query_fault}
use Rattle.theory.specs.Answers.{query_number}
use Rattle.theory.specs.declared.QueryRefusal.{QueryRefusal}
use Rattle.theory.specs.declared.QueryRefusal.TheVariants.{UnfitQuery, QueryName, AskedArgument, SizeField, AskedIsKnown}
use Rattle.theory.proofs.Judging.Keys.{declared_member}
use Rattle.theory.proofs.Judging.LineKeys.{less_is, less_plus, sizes_count, query_declared}
use Rattle.theory.proofs.Reading.Presence.{none_is}
use Rattle.theory.proofs.Reading.Spelling.{natural_within}
use Rattle.text.specs.Scans.{part, Finds, parts_from}
use Rattle.words.specs.Words.{words_of}
use Rattle.tables.specs.declared.Signature.{Signature}
use Rattle.tables.specs.Tables.{SafeSignatures, predicate_at, signature_at, FoundFor, Declares}
use Rattle.tables.proofs.Lookup.{place_arity, key_declared, key_absent}
use Rattle.queries.specs.declared.query.Asked.{Asked}
use Rattle.queries.specs.Queries.{entry_of, SizesStand, are_sizes, FineSizes, is_unasked, Found, Absent, Refuses, Passes}
use Rattle.queries.proofs.AskedField.{asked_clear, asked_is}
use Rattle.queries.proofs.SizeFields.{known_told}
use Rattle.queries.proofs.QueryTests.{fault_four, fault_fourteen, fault_sixteen, fault_seventeen, fault_eighteen, faultless}
use Rattle.queries.proofs.QueryFields.{name_field, asked_inside, asked_field, size_fields, size_count, given_stand}

module _ (query : Bytes) (signatures : List Signature) (known : ℕ) where
  refuses : {f : QueryRefusal} → ((p : Pack) → Declares signatures known p.predicates → query_fault p query ≡ query_number f) → Refuses query signatures known f
  refuses finds = record { tells = finds }

  module _ (unfit : Bool) (scanned : unfit ≡ is_unfit query) where
    pub opens_unfit : unfit ≡ true → Refuses query signatures known UnfitQuery
    opens_unfit e = refuses λ p d. fault_four p query (sym scanned ∙ e)

    -- there are n commas
    module _ (fits : unfit ≡ false) (n : ℕ) (count : n + 1 ≡ length (parts_at 44 query)) where
      fit : is_unfit query ≡ false
      fit = sym scanned ∙ fits

      -- the name is not declared with the arity that the number of fields gives
      undeclared : (is_name (field 0 (fields_of query)) ≡ true → FoundFor signatures known (words_of (field 0 (fields_of query))) (less (length (fields_of query)) 2) None) → Refuses query signatures known QueryName
      undeclared nowhere = refuses λ p d. fault_fourteen p query fit (finds p d)
        where
          finds : (p : Pack) → Declares signatures known p.predicates → (is_name (field 0 (fields_of query)) && is_some (meant_by_query (fields_of query) p)) ≡ false
          finds p d =
              by_truth (λ (b : Bool). (b && is_some (meant_by_query (fields_of query) p)) ≡ false) (is_name (field 0 (fields_of query)))
              (λ named. none_is _ (key_absent d (field 0 (fields_of query)) named (less (length (fields_of query)) 2) (nowhere named)))
              (λ e. refl)

      pub opens_short : n ≡ 0 → Refuses query signatures known QueryName
      unfolding less
      opens_short e = undeclared (λ named. rw (← count, e) refl)

      -- the first field
      module _ (some_comma : n ≡ 0 → ⊥) (stop : ℕ) (first : Finds query 44 0 stop) where
        arity_is : less (length (fields_of query)) 2 ≡ M.some (n - 1)
        arity_is = less_plus (length (fields_of query)) 2 (n - 1) (omega (arith, count, some_comma))

        pub opens_undeclared : Absent (take stop query) (n - 1) signatures known → Refuses query signatures known QueryName
        opens_undeclared absent = undeclared (λ named. rw (arity_is, name_field query stop first) (absent.nowhere (ap is_name (sym (name_field query stop first)) ∙ named)))

        -- the name means the predicate at its place
        module _ (safe : SafeSignatures signatures) (low : known ≤ 32) {place : ℕ} (found : Found (take stop query) (n - 1) signatures known place) where
          field_named : is_name (field 0 (fields_of query)) ≡ true
          field_named = ap is_name (name_field query stop first) ∙ found.is_named

          here : FoundFor signatures known (words_of (field 0 (fields_of query))) (less (length (fields_of query)) 2) (Some place)
          here = rw (arity_is, name_field query stop first) found.at

          -- there is a field for each argument
          full : length (fields_of query) ≡ (signature_at signatures place).arity + 2
          full = let (m, given, few, read) = place_arity signatures safe low _ (less (length (fields_of query)) 2) place here in omega (arith, less_is (length (fields_of query)) 2 m given)

          more : 1 < length (fields_of query)
          more = omega (arith, full)

          given_full : length (query_of query).sizes ≡ (signature_at signatures place).arity
          unfolding query_of
          given_full = omega (arith, sizes_count (fields_of query), full)

          declared : (p : Pack) → Declares signatures known p.predicates → meant_by_query (fields_of query) p ≡ some (predicate_at p.predicates place)
          declared p d = key_declared d (field 0 (fields_of query)) field_named (less (length (fields_of query)) 2) place here

          key_here : (p : Pack) → Declares signatures known p.predicates → key_of (predicate_at p.predicates place) ≡ query_key (query_of query)
          unfolding query_of
          key_here p d = sym (declared_member _ _ _ (query_declared (fields_of query) p.predicates _ (declared p d))).1

          pub arity_few : (signature_at signatures place).arity ≤ 8
          arity_few = safe.arity place (omega (arith, found.at.0))

          -- so there is a second field, and a field for each argument after it
          pub second_inside : stop + 1 ≤ length query
          second_inside = asked_inside query stop first more

          pub sizes_full : (end : ℕ) → Finds query 44 (stop + 1) end → length (parts_from 44 query (end + 1)) ≡ (signature_at signatures place).arity
          sizes_full end second = omega (arith, size_count query stop first more end second, full)

          -- the second field
          module _ (end : ℕ) (second : Finds query 44 (stop + 1) end) where
            -- what test 16 finds
            unasked : (b : Bool) → is_unasked (signature_at signatures place).arity (part query (stop + 1) end) ≡ b → is_unasked (length (query_of query).sizes) (field 1 (fields_of query)) ≡ b
            unasked b e = rw (given_full, asked_field query stop first more end second) e

            pub opens_unasked : is_unasked (signature_at signatures place).arity (part query (stop + 1) end) ≡ true → Refuses query signatures known AskedArgument
            opens_unasked e = refuses λ p d. fault_sixteen p query fit field_named _ (declared p d) (unasked true e)

            -- an argument is asked for
            module _ (asked : ℕ) (number : natural (signature_at signatures place).arity (part query (stop + 1) end) ≡ some (asked + 1)) where
              asks : is_unasked (length (query_of query).sizes) (field 1 (fields_of query)) ≡ false
              asks = unasked false (asked_clear _ _ (asked + 1) number (λ e. omega arith))

              pub asked_low : asked < (signature_at signatures place).arity
              asked_low = omega (arith, natural_within _ _ (asked + 1) number)

              sized : {fine : Bool} → are_sizes (parts_from 44 query (end + 1)) ≡ fine → are_sizes (drop 2 (fields_of query)) ≡ fine
              sized e = ap are_sizes (size_fields query stop first more end second) ∙ e

              pub opens_malformed : {f : QueryRefusal} → f ≡ SizeField → are_sizes (parts_from 44 query (end + 1)) ≡ false → Refuses query signatures known f
              opens_malformed is e = refuses λ p d. fault_seventeen p query fit field_named _ (declared p d) asks (sized e) ∙ ap query_number (sym is)

              -- each size is fine
              module _ {sizes : List (Option ℕ)} (read : FineSizes query (end + 1) sizes) where
                rest : drop 2 (fields_of query) ≡ parts_from 44 query (end + 1)
                rest = size_fields query stop first more end second

                stand : SizesStand sizes (query_of query).sizes
                stand = given_stand query (end + 1) rest read

                asked_place : asked ≡ (query_of query).asked
                unfolding query_of query_from
                asked_place = sym (ap (λ (f : Bytes). M.get_or (natural 8 f) 0 - 1) (asked_field query stop first more end second) ∙ ap (λ (m : ℕ). m - 1) (asked_is _ _ (asked + 1) number arity_few) ∙ omega arith)

                -- the size of the asked argument, in the table
                at_asked : get_or sizes asked None ≡ entry_of (size_given (query_of query).asked (query_of query))
                at_asked =
                    stand.entry asked (omega (arith, given_full, asked_low))
                    ∙ ap (λ (i : ℕ). entry_of (get_or (query_of query).sizes i none)) asked_place

                pub opens_known : is_known (get_or sizes asked None) ≡ true → Refuses query signatures known AskedIsKnown
                opens_known e = refuses λ p d. fault_eighteen p query fit field_named _ (declared p d) asks (sized read.fine) (known_told _ ∙ ap is_known (sym at_asked) ∙ e)

                pub opens_asked : is_known (get_or sizes asked None) ≡ false → (a : Asked) → a.predicate ≡ place → a.arity ≡ (signature_at signatures place).arity → a.asked ≡ asked → a.sizes ≡ sizes → Passes query signatures known a
                opens_asked e a is same which what = record {
                  tells = λ p d. record {
                    faultless = faultless p query fit field_named _ (declared p d) asks (sized read.fine) (known_told _ ∙ ap is_known (sym at_asked) ∙ e);
                    below = omega (arith, d.count, found.at.0);
                    is = rw is (key_here p d);
                    arity = rw is (same ∙ d.arity place found.at.0);
                    full = given_full ∙ sym same;
                    asked = which ∙ asked_place;
                    stand = rw what stand;
                  };
                }
