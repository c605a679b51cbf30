-- Where the rows of a file are misplaced: in one line at most, and in none where they lead to their end.
use Rattle.std.proofs.Common.{◌≡◌, ℕ, List, [], ◌∷◌, ◌++◌, Option, Some, None, refl, ap, sym, ◌∙◌, append_assoc, subst}
use Rattle.vb_syntax.specs.declared.item.Row.{Row}
use Rattle.vb_blocks.specs.{Trees.{CanGoOn, IsMisplaced}, Steps.{State, run, run_on, start}}
use Rattle.vb_tree.proofs.{GoingOn.fewer, Placing.{run_then, begins}}

-- rows that lead somewhere do so as far as any of them
led : (more : List Row) (o : Option State) (st : State) → run_on (run more) o ≡ Some st → (q : State) × (o ≡ Some q)
led more None st e = absurd cc
led more (Some q) st e = (q, refl)

-- rows that lead to their end are nowhere misplaced
pub placed : (rows : List Row) (st : State) → run rows start [] ≡ Some st → (line : ℕ) → IsMisplaced rows line → ⊥
placed rows st so_far line (before, r, behind, are, on, off, at) =
    let e : run_on (run behind) (run (before ++ r ∷ []) start []) ≡ Some st =
    sym (run_then (before ++ r ∷ []) behind start []) ∙ ap (λ (v : List Row). run v start []) (append_assoc before (r ∷ []) behind ∙ sym are) ∙ so_far in
    let q = led behind (run (before ++ r ∷ []) start []) st e in
    off (begins (before ++ r ∷ []) r q.0 q.1)

-- the second rows begin with the first and this one
pub record Extends (a : List Row) (r : Row) (b : List Row) : Type 0 where
  pub rest : List Row
  pub are : b ≡ (a ++ r ∷ []) ++ rest

more_extends : (x y : Row) (a : List Row) (r : Row) (b : List Row) → x ≡ y → Extends a r b → Extends (x ∷ a) r (y ∷ b)
more_extends x y a r b e d = record { rest = d.rest; are = ap (λ (v : Row). v ∷ b) (sym e) ∙ ap (λ (v : List Row). x ∷ v) d.are }

-- two places in a list, each by the rows before it and the row there: they are the same, or one stands before the other
pub data Order (a : List Row) (r : Row) (b : List Row) (s : Row) : Type 0 where
  same : r ≡ s → Order a r b s
  first : Extends a r b → Order a r b s
  last : Extends b s a → Order a r b s

order_more : (x y : Row) (a : List Row) (r : Row) (b : List Row) (s : Row) → x ≡ y → Order a r b s → Order (x ∷ a) r (y ∷ b) s
order_more x y a r b s e (same q) = same q
order_more x y a r b s e (first d) = first (more_extends x y a r b e d)
order_more x y a r b s e (last d) = last (more_extends y x b s a (sym e) d)

order : (a : List Row) (r : Row) (c b : List Row) (s : Row) (d : List Row) → a ++ r ∷ c ≡ b ++ s ∷ d → Order a r b s
order [] r c [] s d e = same cc
order [] r c (y ∷ b) s d e = let q : r ≡ y = cc in first (record { rest = b; are = ap (λ (v : Row). v ∷ b) (sym q) })
order (x ∷ a) r c [] s d e = let q : x ≡ s = cc in last (record { rest = a; are = ap (λ (v : Row). v ∷ a) q })
order (x ∷ a) r c (y ∷ b) s d e = let q : x ≡ y = cc in let t : a ++ r ∷ c ≡ b ++ s ∷ d = cc in order_more x y a r b s q (order a r c b s d t)

not_before : (a : List Row) (r : Row) (b : List Row) → Extends a r b → CanGoOn b → (CanGoOn (a ++ r ∷ []) → ⊥) → ⊥
not_before a r b d on off = off (fewer (a ++ r ∷ []) d.rest (subst CanGoOn d.are on))

same_line : (a : List Row) (r : Row) (b : List Row) (s : Row) → Order a r b s → CanGoOn a → (CanGoOn (a ++ r ∷ []) → ⊥) → CanGoOn b → (CanGoOn (b ++ s ∷ []) → ⊥) → s.line ≡ r.line
same_line a r b s (same q) on off goes stops = ap (λ (v : Row). v.line) (sym q)
same_line a r b s (first d) on off goes stops = absurd (not_before a r b d goes off)
same_line a r b s (last d) on off goes stops = absurd (not_before b s a d on stops)

-- rows are misplaced in one line at most
pub one_misplaced : (rows : List Row) (line other : ℕ) → IsMisplaced rows line → IsMisplaced rows other → other ≡ line
one_misplaced rows line other (a, r, c, is, on, off, at) (b, s, d, are, goes, stops, there) =
    there ∙ same_line a r b s (order a r c b s d (sym is ∙ are)) on off goes stops ∙ sym at
