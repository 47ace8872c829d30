-- What is wrong with a query, in words: the number of its fault is told so, and no other number is.
use mathlib.Core.Path.{◌≡◌, refl, sym, ◌∙◌, ap, subst}
use mathlib.Core.Bool.{Bool, true, false, not}
use mathlib.Core.List.{List, [], ◌∷◌, map}
use mathlib.Core.Option.{Option, some, none}
use Prim.Native.Nat.{ℕ, zero, suc, ◌+◌, ◌-◌, ◌≤◌, ◌<◌}
use native.Mathlib.Omega.{arith}
use lib.ListN.{length, get_or, drop, length-map}
use lib.Seq.{drop-cons}
use Rattle.groundwork.proofs.Truth.{by_truth, never_both, not-false, not-true}
use Rattle.theory.specs.Lists.{every, is_some, ◌∈◌}
use Rattle.theory.specs.Text.{Bytes, bytes, is_name, decimal, fields_of}
use Rattle.theory.specs.Packs.{Predicate, Pack, line}
use Rattle.theory.specs.Written.{field}
use Rattle.theory.specs.Faults.{is_unfit}
use Rattle.theory.specs.LinesTold.{Fit}
use Rattle.theory.specs.Limits.{PredicateFits}
use Rattle.theory.specs.Reserve.{Query, size_from, query_from, query_of, size_given, query_fault}
use Rattle.theory.specs.Queries.{written_size, query_fields, written_query, Named, Asked, SizeField, Sized, LeavesOpen, QueryFits, QueryWritten, QueryTold, unfit, unnamed, unasked, unsized, asked_known, faultless}
use Rattle.theory.proofs.Reading.Bytes.{is_field_byte}
use Rattle.theory.proofs.Reading.Every.{every_member, members_every, some_failing}
use Rattle.theory.proofs.Reading.FieldValues.{values_written, written_read, written_values}
use Rattle.theory.proofs.Reading.PlainFields.{Plain, plain_cons, plain_map, name_plain, decimal_plain, fields_of_line, line_fit}
use Rattle.theory.proofs.Reading.Presence.{none_is, is_none_lem}
use Rattle.theory.proofs.Reading.Separators.{joined_of_parts}
use Rattle.theory.proofs.Reading.Spelling.{natural_of_decimal}
use Rattle.theory.proofs.Judging.Fitness.{fit_told, unfit_told, unfit_exactly, fit_exactly}
use Rattle.theory.proofs.Judging.LineKeys.{sizes_count}
use Rattle.theory.proofs.Judging.Tests.{first_passed, first_found, clear_zero, ◌then◌}
use Rattle.theory.proofs.Reserving.QueryFields.{name_test, named_told, named_clear, asked_test, asked_told, asked_clear}
use Rattle.theory.proofs.Reserving.QuerySizes.{AllSmall, query_small, SmallSize, unknown_alone, size_again, size_written, size_told, size_passes}

-- ---- the test of the sizes

abbrev is_size : Bytes → Bool
is_size f = is_some (size_from f)

abbrev sizes_test : List Bytes → Bool
sizes_test fs = not (every is_size (drop 2 fs))

sized_told : (fs : List Bytes) → sizes_test fs ≡ false → Sized fs
sized_told fs e f m = size_told f (every_member is_size (not-false _ e) m)

sized_clear : (fs : List Bytes) → Sized fs → sizes_test fs ≡ false
sized_clear fs s = ap not (members_every is_size (drop 2 fs) (λ f m. size_passes f (s f m)))

sized_failing : (fs : List Bytes) → sizes_test fs ≡ true → (f : Bytes) × (f ∈ drop 2 fs) × (SizeField f → ⊥)
sized_failing fs e = let (f, m, fails) = some_failing is_size (drop 2 fs) (not-true _ e) in (f, m, λ s. never_both (size_passes f s) fails)

failing_found : (fs : List Bytes) (f : Bytes) → f ∈ drop 2 fs → (SizeField f → ⊥) → sizes_test fs ≡ true
failing_found fs f m fails = by_truth (λ (b : Bool). b ≡ true) (sizes_test fs) (λ e. refl) (λ e. absurd (fails (sized_told fs e f m)))

-- ---- the field of an argument

-- a list written element by element, at a place
mapped_at : (l : List (Option ℕ)) (i : ℕ) → i < length l → get_or (map written_size l) i [] ≡ written_size (get_or l i none)
mapped_at [] i h = absurd (omega arith)
mapped_at (o ∷ l) zero h = refl
mapped_at (o ∷ l) (suc i) h = mapped_at l i (omega arith)

size_at_lem : (q : Query) (i : ℕ) → i < length q.sizes → field (suc (suc i)) (query_fields q) ≡ written_size (size_given i q)
unfolding query_fields
size_at_lem q i h = mapped_at q.sizes i h

-- ---- a query that is read

abbrev known_test : List Bytes → Bool
known_test fs = is_some (size_given (query_from fs).asked (query_from fs))

module _ (fs : List Bytes) (few : length fs ≤ 10) (a : Asked fs) where
  asked_is : (query_from fs).asked + 1 ≡ a.argument
  unfolding query_from
  asked_is = rw (a.is_written, natural_of_decimal 8 a.argument (omega (arith, a.high))) (omega (arith, a.low))

  asked_within : (query_from fs).asked < length (query_from fs).sizes
  asked_within = omega (arith, asked_is, a.high, sizes_count fs)

  module _ (sized : sizes_test fs ≡ false) where
    fields_again : query_fields (query_from fs) ≡ fs
    unfolding query_fields query_from
    fields_again =
        let first = drop-cons fs 0 [] (omega (arith, a.high)) in
        let second = drop-cons fs 1 [] (omega (arith, a.high)) in
        let number = ap decimal asked_is ∙ sym a.is_written in
        let rest = values_written size_from written_size none size_written (drop 2 fs) (not-false _ sized) in
        cc

    -- the asked argument's field
    asked_field : field (a.argument + 1) fs ≡ written_size (size_given (query_from fs).asked (query_from fs))
    asked_field =
        let place : a.argument + 1 ≡ suc (suc (query_from fs).asked) = omega (arith, asked_is) in
        ap (λ (l : List Bytes). field (a.argument + 1) l) (sym fields_again) ∙ ap (λ (i : ℕ). field i (query_fields (query_from fs))) place ∙ size_at_lem (query_from fs) (query_from fs).asked asked_within

    open_told : known_test fs ≡ false → LeavesOpen fs a
    unfolding written_size
    open_told e = asked_field ∙ ap written_size (is_none_lem _ e)

    open_clear : LeavesOpen fs a → known_test fs ≡ false
    open_clear o = none_is _ (unknown_alone _ (sym asked_field ∙ o))

read_small : (query : Bytes) → AllSmall (query_from (fields_of query)).sizes
unfolding query_of
read_small query = query_small query

-- ---- a query that fits, written

size_plain : (o : Option ℕ) → every is_field_byte (written_size o) ≡ true
unfolding written_size every bytes
size_plain none = refl
size_plain (some s) = decimal_plain s

module _ (p : Pack) (fits : (x : Predicate) → x ∈ p.predicates → PredicateFits x) where
  module _ (q : Query) (f : QueryFits p q) where
    named : is_name q.name ≡ true
    named = rw f.is_name (fits f.predicate f.declared).named

    few_arguments : length q.sizes ≤ 8
    few_arguments = omega (arith, f.is_arity, (fits f.predicate f.declared).few)

    fields_plain : Plain (query_fields q)
    unfolding query_fields
    fields_plain = plain_cons (name_plain q.name named) (plain_cons (decimal_plain (q.asked + 1)) (plain_map written_size size_plain q.sizes))

    fields_written : fields_of (written_query q) ≡ query_fields q
    unfolding query_fields
    fields_written = fields_of_line _ (λ e. absurd (omega (arith, ap length e))) fields_plain

    each_small : (o : Option ℕ) → o ∈ q.sizes → SmallSize o
    each_small o m s e = f.small s (subst (λ (size : Option ℕ). size ∈ q.sizes) e m)

    query_again : query_from (query_fields q) ≡ q
    unfolding query_from query_fields
    query_again =
        let place : q.asked + 1 - 1 ≡ q.asked = omega arith in
        rw (natural_of_decimal 8 (q.asked + 1) (omega (arith, f.within, few_arguments)), written_values size_from written_size none q.sizes (λ o m. size_again o (each_small o m)), place)

    has_name : Named p (query_fields q)
    unfolding query_fields
    has_name = record { predicate = f.predicate; declared = f.declared; is_name = f.is_name; is_arity = omega (arith, length-map q.sizes written_size, f.is_arity) }

    has_asked : Asked (query_fields q)
    unfolding query_fields
    has_asked = record { argument = q.asked + 1; low = omega arith; high = omega (arith, length-map q.sizes written_size, f.within); is_written = refl }

    has_sizes : Sized (query_fields q)
    unfolding query_fields
    has_sizes g m = size_told g (every_member is_size (written_read size_from written_size q.sizes (λ o n. size_again o (each_small o n))) m)

    pub read_again : query_of (written_query q) ≡ q
    unfolding query_of
    read_again = ap query_from fields_written ∙ query_again

    left_open : known_test (fields_of (written_query q)) ≡ false
    left_open = ap known_test fields_written ∙ ap (λ (r : Query). is_some (size_given r.asked r)) query_again ∙ none_is _ f.unknown

    pub no_fault : query_fault p (written_query q) ≡ 0
    unfolding query_fault
    no_fault =
        clear_zero _
        (line_fit (query_fields q) fields_plain f.short
        then named_clear p fits (fields_of (written_query q)) (subst (Named p) (sym fields_written) has_name)
        then asked_clear (fields_of (written_query q)) (subst Asked (sym fields_written) has_asked)
        then sized_clear (fields_of (written_query q)) (subst Sized (sym fields_written) has_sizes)
        then left_open
        then tt)

  -- ---- one number

  module _ (query : Bytes) where
    abbrev fs : List Bytes
    fs = fields_of query

    few_fields : Named p fs → length fs ≤ 10
    few_fields n = omega (arith, n.is_arity, (fits n.predicate n.declared).few)

    pub one_told : {n : ℕ} → QueryTold p query n → query_fault p query ≡ n
    unfolding query_fault
    one_told (unfit u) = first_found 4 _ _ ((unfit_exactly query).1 u)
    one_told (unnamed f n) = first_passed 4 _ _ ((fit_exactly query).1 f) ∙ first_found 14 _ _ (by_truth (λ (b : Bool). b ≡ true) (name_test p fs) (λ e. refl) (λ e. absurd (n (named_told p fits fs e))))
    one_told (unasked f n a) = first_passed 4 _ _ ((fit_exactly query).1 f) ∙ first_passed 14 _ _ (named_clear p fits fs n) ∙ first_found 16 _ _ (by_truth (λ (b : Bool). b ≡ true) (asked_test fs) (λ e. refl) (λ e. absurd (a (asked_told fs e))))
    one_told (unsized f n a g m fails) = first_passed 4 _ _ ((fit_exactly query).1 f) ∙ first_passed 14 _ _ (named_clear p fits fs n) ∙ first_passed 16 _ _ (asked_clear fs a) ∙ first_found 17 _ _ (failing_found fs g m fails)
    one_told (asked_known f n a s known) = first_passed 4 _ _ ((fit_exactly query).1 f) ∙ first_passed 14 _ _ (named_clear p fits fs n) ∙ first_passed 16 _ _ (asked_clear fs a) ∙ first_passed 17 _ _ (sized_clear fs s)
        ∙ first_found 18 _ _ (by_truth (λ (b : Bool). b ≡ true) (known_test fs) (λ e. refl) (λ e. absurd (known (open_told fs (few_fields n) a (sized_clear fs s) e))))
    one_told (faultless q w is) = ap (query_fault p) w.is_written ∙ no_fault q w.fits

    -- all tests pass: it is the query that is read, written
    is_query : Fit query → Named p fs → Asked fs → sizes_test fs ≡ false → known_test fs ≡ false → QueryWritten p query (query_from fs)
    unfolding query_from
    is_query f n a sized unknown =
        let is : written_query (query_from fs) ≡ query = ap line (fields_again fs (few_fields n) a sized) ∙ joined_of_parts 44 query in
        record {
          fits = record {
            predicate = n.predicate;
            declared = n.declared;
            is_name = n.is_name;
            is_arity = omega (arith, sizes_count fs, n.is_arity);
            within = asked_within fs (few_fields n) a;
            small = read_small query;
            unknown = is_none_lem _ unknown;
            short = omega (arith, ap length is, f.short);
          };
          is_written = sym is;
        }

    abbrev Told : Type 0
    Told = (n : ℕ) × QueryTold p query n

    some_told : Told
    unfolding query_of
    some_told =
        by_truth (λ _. Told) (is_unfit query) (λ e. (4, unfit (unfit_told query e)))
        (λ e4.
        let f = fit_told query e4 in
        by_truth (λ _. Told) (name_test p fs) (λ e. (14, unnamed f (λ n. never_both e (named_clear p fits fs n))))
        (λ e14.
        let n = named_told p fits fs e14 in
        by_truth (λ _. Told) (asked_test fs) (λ e. (16, unasked f n (λ a. never_both e (asked_clear fs a))))
        (λ e16.
        let a = asked_told fs e16 in
        by_truth (λ _. Told) (sizes_test fs) (λ e. let (g, m, fails) = sized_failing fs e in (17, unsized f n a g m fails))
        (λ e17.
        by_truth (λ _. Told) (known_test fs) (λ e. (18, asked_known f n a (sized_told fs e17) (λ o. never_both e (open_clear fs (few_fields n) a e17 o))))
        (λ e18. (0, faultless (query_from fs) (is_query f n a e17 e18) refl))))))

    pub query_told : QueryTold p query (query_fault p query)
    query_told = subst (QueryTold p query) (sym (one_told some_told.1)) some_told.1

    -- a query with no fault is the one that is read, written
    pub query_written : query_fault p query ≡ 0 → QueryWritten p query (query_of query)
    query_written e = from query_told e
      where
        from : {n : ℕ} → QueryTold p query n → n ≡ 0 → QueryWritten p query (query_of query)
        from (unfit u) e = absurd (omega arith)
        from (unnamed f n) e = absurd (omega arith)
        from (unasked f n a) e = absurd (omega arith)
        from (unsized f n a g m fails) e = absurd (omega arith)
        from (asked_known f n a s known) e = absurd (omega arith)
        from (faultless q w is) e = subst (QueryWritten p query) (sym is) w
