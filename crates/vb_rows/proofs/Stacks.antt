-- The stack of open blocks has the innermost last.
use Rattle.std.proofs.Common.{◌≡◌, ℕ, nat_lt, Bool, true, false, if◌then◌else◌, List, [], ◌∷◌, ◌++◌, length, reverse, slice_index_or, Option, Some, None, MatchOption, refl, sym, ap, ◌∙◌, arith}
use Rattle.std.proofs.lemmas.List.{reverse-append}
use Rattle.vb_ends.specs.{declared.{role.Sort.Sort, stack.Open.Open}, Counts.{number, same_sort, holds, AreCounts}, Enders.is_statement}
use Rattle.vb_ends.proofs.Counting.{counted_holds}
use Rattle.vb_rows.specs.{declared.stack.OpenBlock.OpenBlock, Stacks.{sorts_of, innermost_iterator, innermost_of, opened, ended_statement, passed}}

abbrev pub as_open : OpenBlock → Open
as_open o = record { sort = o.sort; line = 0 }

pub snoc : (xs : List OpenBlock) (x : OpenBlock) → reverse (xs ++ x ∷ []) ≡ x ∷ reverse xs
snoc xs x = reverse-append xs (x ∷ [])

sorts_snoc : (xs : List OpenBlock) (x : OpenBlock) → sorts_of (xs ++ x ∷ []) ≡ sorts_of xs ++ as_open x ∷ []
sorts_snoc [] x = refl
sorts_snoc (y ∷ ys) x = ap (λ os. as_open y ∷ os) (sorts_snoc ys x)

pub sorts_more : (xs ys : List OpenBlock) (x : OpenBlock) → ys ≡ xs ++ x ∷ [] → sorts_of ys ≡ sorts_of xs ++ as_open x ∷ []
sorts_more xs ys x e = ap sorts_of e ∙ sorts_snoc xs x

pub sorts_none : (xs : List OpenBlock) → xs ≡ [] → sorts_of xs ≡ []
sorts_none xs e = ap sorts_of e

pub sorts_length : (xs : List OpenBlock) → length (sorts_of xs) ≡ length xs
sorts_length [] = refl
sorts_length (x ∷ xs) = let again = sorts_length xs in omega (arith, again)

sorts_reverse : (xs : List OpenBlock) → sorts_of (reverse xs) ≡ reverse (sorts_of xs)
sorts_reverse [] = refl
sorts_reverse (x ∷ xs) =
    ap sorts_of (reverse-append (x ∷ []) xs) ∙ sorts_snoc (reverse xs) x ∙ ap (λ os. os ++ as_open x ∷ []) (sorts_reverse xs) ∙ sym (reverse-append (as_open x ∷ []) (sorts_of xs))

pub holds_told : (counts : List ℕ) (blocks now : List OpenBlock) (n : ℕ) (s : Sort) → AreCounts counts (sorts_of blocks) → n ≡ number s → blocks ≡ now → nat_lt 0 (slice_index_or counts n 0) ≡ holds s (sorts_of (reverse now))
holds_told counts blocks now n s are e view = counted_holds counts (sorts_of blocks) n s are e ∙ ap (λ os. holds s os) (sym (sorts_reverse blocks)) ∙ ap (λ xs. holds s (sorts_of (reverse xs))) view

-- THE INNERMOST

pub none_iterates : (xs : List OpenBlock) → xs ≡ [] → false ≡ innermost_iterator (reverse xs)
none_iterates xs e = sym (ap (λ ys. innermost_iterator (reverse ys)) e)

pub last_iterates : (xs rest : List OpenBlock) (x : OpenBlock) → xs ≡ rest ++ x ∷ [] → x.in_iterator ≡ innermost_iterator (reverse xs)
last_iterates xs rest x e = sym (ap (λ ys. innermost_iterator (reverse ys)) e ∙ ap innermost_iterator (snoc rest x))

pub none_innermost : (s : Sort) (xs : List OpenBlock) → xs ≡ [] → false ≡ innermost_of s (reverse xs)
none_innermost s xs e = sym (ap (λ ys. innermost_of s (reverse ys)) e)

pub last_innermost : (s : Sort) (xs rest : List OpenBlock) (x : OpenBlock) → xs ≡ rest ++ x ∷ [] → same_sort x.sort s ≡ innermost_of s (reverse xs)
last_innermost s xs rest x e = sym (ap (λ ys. innermost_of s (reverse ys)) e ∙ ap (λ os. innermost_of s os) (snoc rest x))

-- A BLOCK MORE

pub block_opened : (s : Sort) (b iterates : Bool) (xs ys : List OpenBlock) → b ≡ (if is_statement s then innermost_iterator (reverse xs) else iterates) → ys ≡ xs ++ record { sort = s; in_iterator = b } ∷ []
    → reverse ys ≡ opened s iterates (reverse xs)
block_opened s b iterates xs ys e pushed =
    let make : Bool → OpenBlock = λ v. record { sort = s; in_iterator = v } in
    ap reverse pushed ∙ snoc xs (make b) ∙ ap (λ v. make v ∷ reverse xs) e

-- AN ENDER

ended_here : (s : Sort) (o : OpenBlock) (os : List OpenBlock) → same_sort o.sort s ≡ true → os ≡ ended_statement s (o ∷ os)
unfolding ended_statement
ended_here s o os e = sym (ap (λ b. if b then os else o ∷ os) e)

pub statement_popped : (s : Sort) (xs ys : List OpenBlock) (r : Option OpenBlock) → MatchOption r ((xs ≡ []) × (ys ≡ [])) (λ last. xs ≡ ys ++ last ∷ []) → innermost_of s (reverse xs) ≡ true
    → reverse ys ≡ ended_statement s (reverse xs)
statement_popped s xs ys None h is = let no : false ≡ true = none_innermost s xs h.0 ∙ is in absurd cc
statement_popped s xs ys (Some x) h is =
    ended_here s x (reverse ys) (last_innermost s xs ys x h ∙ is) ∙ sym (ap (λ zs. ended_statement s zs) (ap reverse h ∙ snoc ys x))

pub statement_left : (s : Sort) (os : List OpenBlock) → innermost_of s os ≡ false → os ≡ ended_statement s os
unfolding ended_statement
statement_left s [] e = refl
statement_left s (o ∷ os) e = sym (ap (λ b. if b then os else o ∷ os) e)

pub passed_here : (s : Sort) (xs ys : List OpenBlock) (x : OpenBlock) → xs ≡ ys ++ x ∷ [] → same_sort x.sort s ≡ true → passed s (reverse xs) ≡ reverse ys
unfolding passed
passed_here s xs ys x popped e = ap (λ zs. passed s zs) (ap reverse popped ∙ snoc ys x) ∙ ap (λ b. if b then reverse ys else passed s (reverse ys)) e

pub passed_next : (s : Sort) (xs ys : List OpenBlock) (x : OpenBlock) → xs ≡ ys ++ x ∷ [] → same_sort x.sort s ≡ false → passed s (reverse xs) ≡ passed s (reverse ys)
unfolding passed
passed_next s xs ys x popped e = ap (λ zs. passed s zs) (ap reverse popped ∙ snoc ys x) ∙ ap (λ b. if b then reverse ys else passed s (reverse ys)) e

pub passed_none : (s : Sort) (xs ys : List OpenBlock) → (xs ≡ []) × (ys ≡ []) → reverse ys ≡ passed s (reverse xs)
unfolding passed
passed_none s xs ys e = ap reverse e.1 ∙ sym (ap (λ zs. passed s (reverse zs)) e.0)
