-- Cutting at a separator and joining again, for fields, tokens and lines.
use mathlib.Core.Path.{◌≡◌, refl, sym, ◌∙◌, ap, ap₂}
use mathlib.Core.Bool.{Bool, true, false, cond, not, false≢true}
use mathlib.Core.List.Memᴰ
use mathlib.Core.List.{List, [], ◌∷◌, ◌++◌, append_assoc}
use Prim.Native.Nat.{ℕ}
use lib.Dec.{eqb}
use Rattle.groundwork.proofs.Truth.{by_truth, never_both, and_both, not-true, eqb-equal, eqb_same}
use Rattle.groundwork.proofs.Lists.{all_cons}
use Rattle.theory.specs.Lists.{every, ◌∈◌, ending}
use Rattle.theory.specs.Text.{Bytes, on_first, parts_at, joined, lines_of}
use Rattle.theory.specs.Packs.{text_of}
use Rattle.theory.specs.Check.{is_finished}
use Rattle.theory.proofs.Reading.Every.{every_first, every_rest, every_cons, every_within, every_append}

-- no byte of it is the separator
abbrev pub is_free : ℕ → Bytes → Bool
is_free separator bs = every (λ (b : ℕ). not (eqb b separator)) bs

abbrev pub AllFree : ℕ → List Bytes → Type 0
AllFree separator parts = (part : Bytes) → part ∈ parts → is_free separator part ≡ true

-- a class of bytes that the separator is not of
pub free_from : (test : ℕ → Bool) (separator : ℕ) → test separator ≡ false → (bs : Bytes) → every test bs ≡ true → is_free separator bs ≡ true
free_from test separator h bs k = every_within test (λ (b : ℕ). not (eqb b separator)) other bs k
  where
    other : (b : ℕ) → test b ≡ true → not (eqb b separator) ≡ true
    other b t = by_truth (λ (c : Bool). not c ≡ true) (eqb b separator) (λ e. never_both t (ap test (eqb-equal b separator e) ∙ h)) (λ e. refl)

pub free_first : (separator b : ℕ) (bs : Bytes) → is_free separator (b ∷ bs) ≡ true → eqb b separator ≡ false
free_first separator b bs h = not-true (eqb b separator) (every_first _ b bs h)

-- ---- cutting

-- there is a first part
abbrev Cons : List Bytes → Type 0
Cons parts = (first : Bytes) × (rest : List Bytes) × (parts ≡ first ∷ rest)

on_first_cons : (b : ℕ) (parts : List Bytes) → Cons (on_first b parts)
on_first_cons b [] = (b ∷ [], [], refl)
on_first_cons b (part ∷ parts) = (b ∷ part, parts, refl)

-- Parts and lines alike: a separator ends a part, and any other byte goes in front of the first part after it.
abbrev pub Cuts : ℕ → (Bytes → List Bytes) → Type 0
Cuts separator cut = (b : ℕ) (bs : Bytes) → cut (b ∷ bs) ≡ cond (eqb b separator) ([] ∷ cut bs) (on_first b (cut bs))

pub parts_cut : (separator : ℕ) → Cuts separator (parts_at separator)
unfolding parts_at
parts_cut separator b bs = refl

pub lines_cut : Cuts 10 lines_of
unfolding lines_of
lines_cut b bs = refl

module _ (separator : ℕ) (cut : Bytes → List Bytes) (cuts : Cuts separator cut) where
  cut_cases : (P : List Bytes → Type 0) (b : ℕ) (bs : Bytes) → (eqb b separator ≡ true → P ([] ∷ cut bs)) → (eqb b separator ≡ false → P (on_first b (cut bs))) → P (cut (b ∷ bs))
  cut_cases P b bs f g = rw (cuts b bs) (by_truth (λ (c : Bool). P (cond c ([] ∷ cut bs) (on_first b (cut bs)))) (eqb b separator) f g)

  cut_at : (b : ℕ) (bs : Bytes) → eqb b separator ≡ true → cut (b ∷ bs) ≡ [] ∷ cut bs
  cut_at b bs e = cut_cases (λ parts. parts ≡ [] ∷ cut bs) b bs (λ _. refl) (λ f. never_both e f)

  pub cut_other : (b : ℕ) (bs : Bytes) → eqb b separator ≡ false → cut (b ∷ bs) ≡ on_first b (cut bs)
  cut_other b bs e = cut_cases (λ parts. parts ≡ on_first b (cut bs)) b bs (λ t. never_both t e) (λ _. refl)

  -- a part with its separator in front of something
  pub cut_off : (part bs : Bytes) → is_free separator part ≡ true → cut (part ++ separator ∷ bs) ≡ part ∷ cut bs
  cut_off [] bs h = cut_at separator bs (eqb_same separator)
  cut_off (b ∷ part) bs h =
      cut_other b (part ++ separator ∷ bs) (free_first separator b part h) ∙ ap (on_first b) (cut_off part bs (every_rest _ b part h))

  -- there is always a first part after a byte
  cut_cons : (b : ℕ) (bs : Bytes) → Cons (cut (b ∷ bs))
  cut_cons b bs = cut_cases Cons b bs (λ _. ([], cut bs, refl)) (λ _. on_first_cons b (cut bs))

-- there is always a first part
pub parts_cons : (separator : ℕ) (bs : Bytes) → (first : Bytes) × (rest : List Bytes) × (parts_at separator bs ≡ first ∷ rest)
unfolding parts_at
parts_cons separator [] = ([], [], refl)
parts_cons separator (b ∷ bs) = cut_cons separator (parts_at separator) (parts_cut separator) b bs

on_first_free : (separator b : ℕ) (parts : List Bytes) → eqb b separator ≡ false → AllFree separator parts → AllFree separator (on_first b parts)
unfolding every
on_first_free separator b [] other free = all_cons _ (rw other) free
on_first_free separator b (part ∷ parts) other free =
    all_cons _ (every_cons _ b part (ap not other) (free part (Memᴰ.head refl))) (λ k m. free k (Memᴰ.tail m))

-- no part has the separator in it
pub parts_free : (separator : ℕ) (bs : Bytes) → AllFree separator (parts_at separator bs)
unfolding parts_at every
parts_free separator [] = all_cons _ refl (λ k m. absurd (Memᴰ.not-nil m))
parts_free separator (b ∷ bs) =
    cut_cases separator (parts_at separator) (parts_cut separator) (AllFree separator) b bs
    (λ _. all_cons _ refl (parts_free separator bs))
    (λ other. on_first_free separator b (parts_at separator bs) other (parts_free separator bs))

-- ---- joining

-- what is free of the separator is one part
pub parts_of_free : (separator : ℕ) (bs : Bytes) → is_free separator bs ≡ true → parts_at separator bs ≡ bs ∷ []
unfolding parts_at
parts_of_free separator [] h = refl
parts_of_free separator (b ∷ bs) h =
    cut_other separator (parts_at separator) (parts_cut separator) b bs (free_first separator b bs h)
    ∙ ap (on_first b) (parts_of_free separator bs (every_rest _ b bs h))

pub parts_of_joined : (separator : ℕ) (first : Bytes) (rest : List Bytes) → AllFree separator (first ∷ rest) → parts_at separator (joined separator (first ∷ rest)) ≡ first ∷ rest
unfolding joined
parts_of_joined separator first [] free = parts_of_free separator first (free first (Memᴰ.head refl))
parts_of_joined separator first (next ∷ rest) free =
    cut_off separator (parts_at separator) (parts_cut separator) first (joined separator (next ∷ rest)) (free first (Memᴰ.head refl))
    ∙ ap (λ (parts : List Bytes). first ∷ parts) (parts_of_joined separator next rest (λ other m. free other (Memᴰ.tail m)))

-- the first part, whatever stands in the others
pub first_part : (separator : ℕ) (first : Bytes) (others : List Bytes) → is_free separator first ≡ true
    → (after : List Bytes) × (parts_at separator (joined separator (first ∷ others)) ≡ first ∷ after)
unfolding joined
first_part separator first [] free = ([], parts_of_free separator first free)
first_part separator first (next ∷ others) free = (_, cut_off separator (parts_at separator) (parts_cut separator) first (joined separator (next ∷ others)) free)

joined_cons : (separator : ℕ) (part : Bytes) (parts : List Bytes) → Cons parts → joined separator (part ∷ parts) ≡ part ++ separator ∷ joined separator parts
unfolding joined
joined_cons separator part parts found = rw found.2

joined_on_first : (separator b : ℕ) (parts : List Bytes) → joined separator (on_first b parts) ≡ b ∷ joined separator parts
unfolding joined
joined_on_first separator b [] = refl
joined_on_first separator b (part ∷ []) = refl
joined_on_first separator b (part ∷ next ∷ parts) = refl

pub joined_of_parts : (separator : ℕ) (bs : Bytes) → joined separator (parts_at separator bs) ≡ bs
unfolding joined parts_at
joined_of_parts separator [] = refl
joined_of_parts separator (b ∷ bs) =
    cut_cases separator (parts_at separator) (parts_cut separator) (λ parts. joined separator parts ≡ b ∷ bs) b bs
    (λ e. joined_cons separator [] (parts_at separator bs) (parts_cons separator bs) ∙ ap₂ ◌∷◌ (sym (eqb-equal b separator e)) (joined_of_parts separator bs))
    (λ _. joined_on_first separator b (parts_at separator bs) ∙ ap (λ (rest : Bytes). b ∷ rest) (joined_of_parts separator bs))

-- a class of bytes that the parts and the separator are of
pub every_joined : (test : ℕ → Bool) (separator : ℕ) → test separator ≡ true → (parts : List Bytes) → ((part : Bytes) → part ∈ parts → every test part ≡ true) → every test (joined separator parts) ≡ true
unfolding every joined
every_joined test separator h [] k = refl
every_joined test separator h (part ∷ []) k = k part (Memᴰ.head refl)
every_joined test separator h (part ∷ next ∷ parts) k =
    every_append test part (separator ∷ joined separator (next ∷ parts)) (k part (Memᴰ.head refl))
    (and_both (test separator) (every test (joined separator (next ∷ parts))) h (every_joined test separator h (next ∷ parts) (λ other m. k other (Memᴰ.tail m))))

-- ---- lines

pub lines_of_text : (ls : List Bytes) → AllFree 10 ls → lines_of (text_of ls) ≡ ls
unfolding lines_of text_of
lines_of_text [] free = refl
lines_of_text (l ∷ ls) free =
    cut_off 10 lines_of lines_cut l (text_of ls) (free l (Memᴰ.head refl))
    ∙ ap (λ (rest : List Bytes). l ∷ rest) (lines_of_text ls (λ other m. free other (Memᴰ.tail m)))

text_on_first : (b : ℕ) (ls : List Bytes) → Cons ls → text_of (on_first b ls) ≡ b ∷ text_of ls
unfolding text_of
text_on_first b ls found = rw found.2

pub text_of_lines : (text : Bytes) → is_finished text ≡ true → text_of (lines_of text) ≡ text
unfolding is_finished lines_of text_of
text_of_lines [] h = absurd (false≢true h)
text_of_lines (b ∷ []) h = rw h (ap (λ (c : ℕ). c ∷ []) (sym (eqb-equal b 10 h)))
text_of_lines (b ∷ c ∷ bs) h =
    cut_cases 10 lines_of lines_cut (λ ls. text_of ls ≡ b ∷ c ∷ bs) b (c ∷ bs)
    (λ e. ap₂ ◌∷◌ (sym (eqb-equal b 10 e)) (text_of_lines (c ∷ bs) h))
    (λ _. text_on_first b (lines_of (c ∷ bs)) (cut_cons 10 lines_of lines_cut c bs) ∙ ap (λ (rest : Bytes). b ∷ rest) (text_of_lines (c ∷ bs) h))

-- one line more
pub text_end : (ls : List Bytes) (l : Bytes) → text_of (ending l ls) ≡ text_of ls ++ (l ++ (10 ∷ []))
unfolding text_of
text_end [] l = refl
text_end (k ∷ ls) l = ap (λ (bs : Bytes). k ++ 10 ∷ bs) (text_end ls l) ∙ sym (append_assoc k (10 ∷ text_of ls) (l ++ (10 ∷ [])))

finished_after : (l : Bytes) (b : ℕ) (bs : Bytes) → is_finished (b ∷ bs) ≡ true → is_finished (l ++ b ∷ bs) ≡ true
unfolding is_finished
finished_after [] b bs h = h
finished_after (x ∷ []) b bs h = h
finished_after (x ∷ y ∷ l) b bs h = finished_after (y ∷ l) b bs h

finished_below : (ls : List Bytes) → is_finished (10 ∷ text_of ls) ≡ true
unfolding is_finished text_of
finished_below [] = refl
finished_below (l ∷ ls) = finished_after (10 ∷ l) 10 (text_of ls) (finished_below ls)

pub finished_text : (l : Bytes) (ls : List Bytes) → is_finished (text_of (l ∷ ls)) ≡ true
unfolding text_of
finished_text l ls = finished_after l 10 (text_of ls) (finished_below ls)
