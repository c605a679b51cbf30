use Rattle.std.proofs.Common.{ℕ, ◌<◌, ◌≤◌, List, [], ◌∷◌, ◌++◌, length, drop, subst, ap, sym, ◌∙◌, append-nil, append_assoc, length-drop, arith, slice_index}
use Rattle.bstr.specs.Utf8.{decoded}
use Rattle.bstr.proofs.lemmas.PieceLemmas.{size-bounds}
use Rattle.vb_lexer.specs.Characters.{Decodes}
use Rattle.vb_lexer.proofs.Runs.{empty_of}
use Rattle.vb_lexer.proofs.characters.decoded.Goals as goal

bounds : (bs : List ℕ) → 0 < length bs → (1 ≤ (decoded bs).size) × ((decoded bs).size ≤ 4) × ((decoded bs).size ≤ length bs)
bounds bs some = size-bounds (length bs) (slice_index bs 0) (slice_index bs 1) (slice_index bs 2) (slice_index bs 3) some

pub split_at-requires : goal.split_at-requires
split_at-requires c = let b = bounds c.loop-rest.rest.now (omega arith) in omega (arith, b.2, c.decode-character.ensures.size)

pub loop-rest-preserved : goal.loop-rest-preserved
loop-rest-preserved c = λ cs more.
    let here = c.loop-rest.invariant (c.decode-character.result.0 ∷ cs) (
      omega arith,
      sym c.decode-character.ensures.char,
      subst (λ us. Decodes us cs) (c.split_at.ensures.back ∙ ap (λ n. drop n c.loop-rest.rest.now) c.decode-character.ensures.size) more,
    ) in
    subst (λ us. Decodes c.args.bytes.now us) (sym (append_assoc c.loop-rest.text.items (c.decode-character.result.0 ∷ []) cs) ∙ ap (λ us. us ++ cs) (sym c.in_ok-push.ensures.items)) here

pub loop-rest-smaller : goal.loop-rest-smaller
loop-rest-smaller c =
    let b = bounds c.loop-rest.rest.now (omega arith) in
    let back = ap (λ us. length us) c.split_at.ensures.back in
    omega (arith, b.0, b.2, back, c.decode-character.ensures.size, length-drop c.decode-character.result.1 c.loop-rest.rest.now)

pub returns : goal.returns
returns c = subst (λ us. Decodes c.args.bytes.now us) (append-nil c.loop-rest.text.items) (c.loop-rest.invariant [] (empty_of c.loop-rest.rest.now (omega arith)))
