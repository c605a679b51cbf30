-- The depths of the pieces of a line that were counted.
use Rattle.std.proofs.Common.{◌≡◌, ℕ, ◌+◌, ◌-◌, ◌<◌, ◌≤◌, ◌==◌, ◌&&◌, Bool, true, false, List, [], ◌∷◌, ◌++◌, length, take, drop, refl, sym, ap, subst, ◌∙◌, append_assoc, append-nil, length-drop, if◌then◌else◌, arith}
use Rattle.std.proofs.lemmas.List.{take_all}
use Rattle.vb_syntax.specs.{declared.{tokens.Token.Token, item.Joint.Joint}, Items.is_end}
use Rattle.vb_syntax.specs.declared.item.Joint.TheVariants as joint
use Rattle.vb_rows.specs.{declared.pieces.Found.Found, Pieces.{kept, parts_statements}, Cutting.{FirstPiece, Shrinks, before_behind, skipped, cut_behind, is_left_out}, Files.{deepest, ifs_behind, piece_depths}}
use Rattle.vb_rows.proofs.PieceRows.{pieces_from, left_behind, next_left_out, next_kept}

-- what a piece adds
abbrev pub added : Bool → ℕ → List Token → List ℕ
added left_out ifs us = if left_out then [] else (ifs + deepest 0 us) ∷ []

right_of : (a b : Bool) → (a && b) ≡ true → b ≡ true
right_of true b e = e
right_of false b e = absurd cc

same_ifs : (ifs : ℕ) (j : Joint) → parts_statements j ≡ true → ifs_behind ifs j ≡ ifs
same_ifs ifs joint.End e = refl
same_ifs ifs joint.Colon e = refl
same_ifs ifs joint.Then e = absurd cc
same_ifs ifs joint.Else e = absurd cc

-- a piece that is left out has no `Then`
left_ifs : (ifs : ℕ) (from : Joint) (found : Found) → is_left_out from found ≡ true → ifs_behind ifs found.behind ≡ ifs
left_ifs ifs from found e = same_ifs ifs found.behind (right_of (parts_statements from) (parts_statements found.behind) (right_of (found.length == 0) (parts_statements from && parts_statements found.behind) e))

counted_by : (from : Joint) (us : List Token) (found : Found) (ifs : ℕ) (known grown all : List ℕ) (b : Bool) → is_left_out from found ≡ b → FirstPiece (before_behind from) us found
    → grown ≡ known ++ added b ifs (take found.length us) → all ≡ known ++ piece_depths ifs (pieces_from from us) → all ≡ grown ++ piece_depths (ifs_behind ifs found.behind) (left_behind found us)
counted_by from us found ifs known grown all true e first grows is =
    is ∙ ap (λ ps. known ++ piece_depths ifs ps) (next_left_out from us found first e) ∙ ap (λ n. known ++ piece_depths n (left_behind found us)) (sym (left_ifs ifs from found e))
    ∙ ap (λ ds. ds ++ piece_depths (ifs_behind ifs found.behind) (left_behind found us)) (sym (grows ∙ append-nil known))
counted_by from us found ifs known grown all false e first grows is =
    is ∙ ap (λ ps. known ++ piece_depths ifs ps) (next_kept from us found first e)
    ∙ sym (append_assoc known ((ifs + deepest 0 (take found.length us)) ∷ []) (piece_depths (ifs_behind ifs found.behind) (left_behind found us)))
    ∙ ap (λ ds. ds ++ piece_depths (ifs_behind ifs found.behind) (left_behind found us)) (sym grows)

-- one piece more
pub piece_counted : (from : Joint) (us : List Token) (found : Found) (ifs : ℕ) (known grown all : List ℕ) → FirstPiece (before_behind from) us found
    → grown ≡ known ++ added (is_left_out from found) ifs (take found.length us) → all ≡ known ++ piece_depths ifs (pieces_from from us)
    → all ≡ grown ++ piece_depths (ifs_behind ifs found.behind) (left_behind found us)
piece_counted from us found ifs known grown all first grows is = counted_by from us found ifs known grown all (is_left_out from found) refl first grows is

-- A piece with a `Then` has a token at least: so no more `If`s are open than tokens stand before.
pub few_ifs : (ifs : ℕ) (from : Joint) (us : List Token) (found : Found) (m : ℕ) → FirstPiece (before_behind from) us found → ifs + length us ≤ m
    → ifs_behind ifs found.behind + (length us - found.length - skipped found.behind) ≤ m
few_ifs ifs from us found m first few = by_joint found.behind refl
  where
    by_joint : (j : Joint) → found.behind ≡ j → ifs_behind ifs j + (length us - found.length - skipped j) ≤ m
    by_joint joint.End e = omega (arith, few)
    by_joint joint.Colon e = omega (arith, few)
    by_joint joint.Else e = omega (arith, few)
    by_joint joint.Then e =
        let some : 0 < found.length = subst (λ j. Shrinks j found.length (length us)) e first.shrinks in
        let within = first.within in
        omega (arith, few, some, within)

-- how many tokens are left, as the code takes them
pub left_length : (us behind : List Token) (n skip : ℕ) → behind ≡ drop n us → length (take (length behind - skip) (drop skip behind)) ≡ length us - n - skip
left_length us behind n skip back =
    ap (λ ts. length ts) (take_all (length behind - skip) (drop skip behind) (omega (arith, length-drop skip behind))) ∙ length-drop skip behind
    ∙ ap (λ m. m - skip) (ap (λ ts. length ts) back ∙ length-drop n us)

left_here : (j : Joint) (us : List Token) → is_end j ≡ false → kept j (cut_behind j us) ≡ pieces_from j (drop (skipped j) us)
left_here joint.End us h = cc
left_here joint.Colon us h = refl
left_here joint.Then us h = refl
left_here joint.Else us h = refl

-- what is left stands in the rest, as the code takes it
pub left_from : (j : Joint) (us behind : List Token) (n skip : ℕ) → is_end j ≡ false → behind ≡ drop n us → skip ≡ skipped j
    → kept j (cut_behind j (drop n us)) ≡ pieces_from j (take (length behind - skip) (drop skip behind))
left_from j us behind n skip h back same =
    ap (λ ts. kept j (cut_behind j ts)) (sym back) ∙ left_here j behind h ∙ ap (λ m. pieces_from j (drop m behind)) (sym same)
    ∙ ap (λ ts. pieces_from j ts) (sym (take_all (length behind - skip) (drop skip behind) (omega (arith, length-drop skip behind))))
