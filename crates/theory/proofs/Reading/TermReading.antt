-- A field is read as the term t exactly if it is t written.
use mathlib.Core.Path.{◌≡◌, refl, sym, ◌∙◌, ap, subst}
use mathlib.Core.Bool.{true}
use mathlib.Core.List.Memᴰ
use mathlib.Core.List.{List, [], ◌∷◌, ◌++◌, append-nil, append_assoc}
use mathlib.Core.Option.{Option, some, none, map, some-injective, none-ne-some}
use Prim.Native.Nat.{ℕ, zero, suc, ◌≤◌}
use Rattle.theory.specs.Lists.{every, ◌∈◌}
use Rattle.theory.specs.Text.{Bytes, parts_at, joined}
use Rattle.theory.specs.Terms.{Term, variable, symbol, Terms, nil, cons, arity, symbol_token, tokens, all_tokens, written_term, WellFormed, AllWellFormed, WrittenAs}
use Rattle.theory.specs.Terms.{Token, token_of, first_terms, after, after_all, terms_of, the_only, read_term}
use Rattle.theory.proofs.Reading.Bytes.{is_field_byte, is_token_byte, token_field}
use Rattle.theory.proofs.Reading.Separators.{AllFree, free_from, parts_of_joined, joined_of_parts, every_joined}
use Rattle.theory.proofs.Reading.Spelling.{variable_bytes}
use Rattle.theory.proofs.Reading.Tokens.{ReadAs, as_variable, as_symbol, as_none, token_of_variable, token_of_symbol, read_as, symbol_bytes}
use Rattle.groundwork.proofs.Lists.{all_cons, all_append}

-- ---- terms after terms

appended : Terms → Terms → Terms
appended nil us = us
appended (cons t ts) us = cons t (appended ts us)

tokens_appended : (ts us : Terms) → all_tokens (appended ts us) ≡ all_tokens ts ++ all_tokens us
unfolding appended all_tokens
tokens_appended nil us = refl
tokens_appended (cons t ts) us = rw (tokens_appended ts us) (sym (append_assoc (tokens t) (all_tokens ts) (all_tokens us)))

formed_appended : (ts us : Terms) → AllWellFormed (appended ts us) → AllWellFormed ts × AllWellFormed us
unfolding appended
formed_appended nil us h = (tt, h)
formed_appended (cons t ts) us h = let rest = formed_appended ts us h.1 in ((h.0, rest.0), rest.1)

first_of_appended : (ts us : Terms) → first_terms (arity ts) (appended ts us) ≡ some (ts, us)
unfolding appended arity first_terms
first_of_appended nil us = refl
first_of_appended (cons t ts) us = rw (first_of_appended ts us)

-- some terms, cut after the first k
data Cut : ℕ → Terms → Option (Terms × Terms) → Type 0 where
  cut : (ts us : Terms) → Cut (arity ts) (appended ts us) (some (ts, us))
  too_few : {k : ℕ} {ts : Terms} → Cut k ts none

first_terms_cut : (k : ℕ) (ts : Terms) → Cut k ts (first_terms k ts)
unfolding first_terms arity appended
first_terms_cut zero ts = cut nil ts
first_terms_cut (suc k) nil = too_few
first_terms_cut (suc k) (cons t ts) = one_more_lem (first_terms_cut k ts)
  where
    one_more_lem : {k : ℕ} {ts : Terms} {o : Option (Terms × Terms)} → Cut k ts o → Cut (suc k) (cons t ts) (map (λ (p : Terms × Terms). (cons t p.0, p.1)) o)
    one_more_lem (cut ts us) = cut (cons t ts) us
    one_more_lem too_few = too_few

-- ---- tokens written, then read

mutual
  unfolding tokens terms_of after after_all appended

  terms_of_tokens : (t : Term) → WellFormed t → (ws : List Bytes) (us : Terms) → terms_of ws ≡ some us → terms_of (tokens t ++ ws) ≡ some (cons t us)
  terms_of_tokens (variable x) h ws us e = rw (e, token_of_variable x h)
  terms_of_tokens (symbol f ts) h ws us e = rw (terms_of_all_tokens ts h.2 ws us e, token_of_symbol f (arity ts) h.0 h.1) (rw (first_of_appended ts us))

  terms_of_all_tokens : (ts : Terms) → AllWellFormed ts → (ws : List Bytes) (us : Terms) → terms_of ws ≡ some us → terms_of (all_tokens ts ++ ws) ≡ some (appended ts us)
  terms_of_all_tokens nil h ws us e = e
  terms_of_all_tokens (cons t ts) h ws us e = rw (append_assoc (tokens t) (all_tokens ts) ws) (terms_of_tokens t h.0 (all_tokens ts ++ ws) (appended ts us) (terms_of_all_tokens ts h.1 ws us e))

-- ---- tokens read, then written

-- what tokens are read as, and that they are that written
data Reads (ws : List Bytes) : Option Terms → Type 0 where
  reads : (ts : Terms) → ws ≡ all_tokens ts → AllWellFormed ts → Reads ws (some ts)
  reads_none : Reads ws none

after_reads : (w : Bytes) (ws : List Bytes) (us : Terms) (token : Token) → ReadAs w token → ws ≡ all_tokens us → AllWellFormed us → Reads (w ∷ ws) (after token us)
unfolding after tokens
after_reads w ws us token (as_variable named) e h = reads (cons (variable w) us) (ap (λ l. w ∷ l) e) (named, h)
after_reads w ws us token (as_symbol {f = f} {k = k} is named few) e h = with_arguments (first_terms_cut k us) is few e h
  where
    with_arguments : {k : ℕ} {us : Terms} {o : Option (Terms × Terms)} → Cut k us o → w ≡ symbol_token f k → k ≤ 9 → ws ≡ all_tokens us → AllWellFormed us → Reads (w ∷ ws) (map (λ (p : Terms × Terms). cons (symbol f p.0) p.1) o)
    with_arguments (cut ts vs) is few e h = let both = formed_appended ts vs h in reads (cons (symbol f ts) vs) (rw (is, e, tokens_appended ts vs)) ((named, few, both.0), both.1)
    with_arguments too_few is few e h = reads_none
after_reads w ws us token as_none e h = reads_none

terms_of_reads : (ws : List Bytes) → Reads ws (terms_of ws)
unfolding terms_of after_all all_tokens
terms_of_reads [] = reads nil refl tt
terms_of_reads (w ∷ ws) = in_front_lem (terms_of_reads ws)
  where
    in_front_lem : {o : Option Terms} → Reads ws o → Reads (w ∷ ws) (after_all (token_of w) o)
    in_front_lem (reads us e h) = after_reads w ws us (token_of w) (read_as w) e h
    in_front_lem reads_none = reads_none

-- ---- the bytes of tokens

mutual
  unfolding tokens

  every_token : (t : Term) → WellFormed t → (w : Bytes) → w ∈ tokens t → every is_token_byte w ≡ true
  every_token (variable x) h = λ w m. rw (Memᴰ.eq_of_singleton m) (variable_bytes x h)
  every_token (symbol f ts) h = all_cons (λ w. every is_token_byte w ≡ true) (symbol_bytes f (arity ts) h.0) (every_token_of_all ts h.2)

  every_token_of_all : (ts : Terms) → AllWellFormed ts → (w : Bytes) → w ∈ all_tokens ts → every is_token_byte w ≡ true
  every_token_of_all nil h = λ w m. absurd (Memᴰ.not-nil m)
  every_token_of_all (cons t ts) h = all_append (λ w. every is_token_byte w ≡ true) (tokens t) (all_tokens ts) (every_token t h.0) (every_token_of_all ts h.1)

-- ---- fields

-- cut at its spaces, a written term is its tokens
parts_of_written : (t : Term) → WellFormed t → parts_at 32 (written_term t) ≡ tokens t
unfolding written_term tokens
parts_of_written t h = cut_again t (λ part m. free_from is_token_byte 32 refl part (every_token t h part m))
  where
    cut_again : (t : Term) → AllFree 32 (tokens t) → parts_at 32 (joined 32 (tokens t)) ≡ tokens t
    cut_again (variable x) free = parts_of_joined 32 x [] free
    cut_again (symbol f ts) free = parts_of_joined 32 (symbol_token f (arity ts)) (all_tokens ts) free

pub read_of_written : (t : Term) → WellFormed t → read_term (written_term t) ≡ some t
unfolding read_term the_only terms_of
read_of_written t h = rw (parts_of_written t h, ← append-nil (tokens t), terms_of_tokens t h [] nil refl)

pub written_of_read : (bs : Bytes) (t : Term) → read_term bs ≡ some t → WrittenAs t bs
unfolding read_term the_only written_term tokens
written_of_read bs t e = only (terms_of_reads (parts_at 32 bs)) e
  where
    only : {o : Option Terms} → Reads (parts_at 32 bs) o → the_only o ≡ some t → WrittenAs t bs
    only (reads nil is h) e = absurd (none-ne-some t e)
    only (reads (cons u nil) is h) e =
        let same : u ≡ t = some-injective u t e in
        record { is = sym (joined_of_parts 32 bs) ∙ ap (joined 32) (is ∙ append-nil (tokens u)) ∙ ap written_term same; formed = subst WellFormed same h.0 }
    only (reads (cons u (cons v ts)) is h) e = absurd (none-ne-some t e)
    only reads_none e = absurd (none-ne-some t e)

pub term_bytes : (t : Term) → WellFormed t → every is_field_byte (written_term t) ≡ true
unfolding written_term
term_bytes t h = every_joined is_field_byte 32 refl (tokens t) (λ part m. token_field part (every_token t h part m))
