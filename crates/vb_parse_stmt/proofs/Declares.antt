-- Lines of declarations, and the others.
use Rattle.std.proofs.Common.{◌≡◌, ◌⊎◌, inl, inr, ◌≤◌, List, length, refl, sym, ap, ◌∙◌}
use Rattle.vb_syntax.specs.{declared.{tokens.{Token.Token, Line.Line}, item.{DeclarationLine.DeclarationLine, Item.Item}, words.Context.Context}, ContextualWords.OptionsApart}
use Rattle.vb_syntax.specs.declared.item.Item.TheVariants as item
use Rattle.vb_parse_expr.specs.{TypeReading.most_tokens, declared.error.ParseErr.{ParseErr, TheVariants.{Refused, Memory}}}
use Rattle.vb_parse_decl.specs.{DeclarationLines.IsDeclarationLine, Answers.Tells}
use Rattle.vb_parse_decl.proofs.DeclaredDeclarators.{Readings}
use Rattle.std.specs.Prelude.{Result, Ok, Err}
use Rattle.vb_parse_stmt.specs.Items.{IsItem, IsOtherItem, DeclaresNothing}
use Rattle.vb_parse_stmt.proofs.ItemSame.{item_same}

-- an item is a line of declarations, or the line is none
abbrev Sorted : Context → List Token → Item → Type 0
Sorted c ts x = ((d : DeclarationLine) × (x ≡ item.Declares d) × IsDeclarationLine c.words ts d) ⊎ (DeclaresNothing c.words ts × IsOtherItem c ts x)

sorted : (c : Context) (ts : List Token) (x : Item) → IsItem c ts x → Sorted c ts x
sorted c ts (item.Declares d) p = inl (d, refl, p)
sorted c ts x p = inr p

other : (c : Context) (ts : List Token) (x : Item) → DeclaresNothing c.words ts → IsOtherItem c ts x → IsItem c ts x
other c ts (item.Declares d) none p = absurd p
other c ts x none p = (none, p)

module _ (c : Context) (ts : List Token) (laws : Readings) (one : (x y : DeclarationLine) → IsDeclarationLine c.words ts x → IsDeclarationLine c.words ts y → x ≡ y) (apart : OptionsApart c.words) (few : length ts ≤ most_tokens) where
  both : (x y : Item) → Sorted c ts x → Sorted c ts y → x ≡ y
  both x y (inl p) (inl q) = p.1 ∙ ap item.Declares (one p.0 q.0 p.2 q.2) ∙ sym q.1
  both x y (inl p) (inr q) = absurd (q.0 p.0 p.2)
  both x y (inr p) (inl q) = absurd (p.0 q.0 q.2)
  both x y (inr p) (inr q) = item_same laws c ts x y apart few p.1 q.1

  pub all_same : (x y : Item) → IsItem c ts x → IsItem c ts y → x ≡ y
  all_same x y p q = both x y (sorted c ts x p) (sorted c ts y q)

-- what is told of a line that declares nothing
pub other_tells : (c : Context) (line : Line) (ts : List Token) (r : Result Item ParseErr) → DeclaresNothing c.words ts → Tells (IsOtherItem c) line ts r → Tells (IsItem c) line ts r
other_tells c line ts (Ok x) none p = other c ts x none p
other_tells c line ts (Err (Refused e)) none p = (λ x q. elim (sorted c ts x q) [ inl d ↦ none d.0 d.2 | inr o ↦ p.0 x o.1 ], p.1)
other_tells c line ts (Err Memory) none p = tt
