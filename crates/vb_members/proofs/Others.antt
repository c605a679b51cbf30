-- A line among members that is no declaration of one without a block.
use Rattle.std.proofs.Common.{◌≡◌, ℕ, Bool, true, false, cond, List, [], ◌∷◌, ◌++◌, Option, Some, None, Result, refl, sym, subst, ◌∙◌}
use Rattle.vb_text.specs.declared.names.Name.{Name}
use Rattle.vb_syntax.specs.{declared.{types.TypeName.TypeName, declarator.Declarator.Declarator, declaration.{EventHandler.EventHandler, ImplementedMember.ImplementedMember, Modifier.Modifier, MemberForm.MemberForm, Member.Member}, item.{PropertyHeader.PropertyHeader, DeclarationLine.DeclarationLine, Item.Item}}, Items.must_override}
use Rattle.vb_syntax.specs.declared.declaration.MemberForm.TheVariants as member
use Rattle.vb_syntax.specs.declared.item.DeclarationLine.TheVariants as header
use Rattle.vb_syntax.specs.declared.item.Item.TheVariants as item
use Rattle.vb_blocks.specs.{declared.{fault.Fault.Fault, frame.{Frame.Frame, TypeHeader.TypeHeader, Turn.Turn}}, Trees.member_of, Steps.{Gives, body, header_turn, member_or_header, members_turn, procedure_turn}}
use Rattle.vb_blocks.specs.declared.scope.Scope.TheVariants as scope
use Rattle.vb_blocks.specs.declared.frame.Frame.TheVariants as frame
use Rattle.vb_blocks.specs.declared.frame.TypeHeader.TheVariants as type_header
use Rattle.vb_blocks.specs.declared.frame.Turn.TheVariants as turn

module _ (h : TypeHeader) (ms : List Member) (line : ℕ) where
  with_block_or_not : (b : Bool) (x : Item) (m : List Modifier × MemberForm) (f : Frame)
      → cond b (Some (turn.Goes (frame.Members h (ms ++ member_of line m ∷ [])))) (Some (turn.Opens (frame.Members h ms) f)) ≡ member_or_header h ms line x (cond b (Some m) None) (Some f)
  with_block_or_not true x m f = refl
  with_block_or_not false x m f = refl

  no_header : (k : TypeHeader) (d : DeclarationLine) → ((ts : List TypeName) → d ≡ header.Inherits ts → ⊥) → ((ts : List TypeName) → d ≡ header.Implements ts → ⊥) → None ≡ header_turn k ms line (item.Declares d)
  no_header (type_header.Module l a n) d inherits implements = refl
  no_header (type_header.Class p) (header.Inherits ts) inherits implements = absurd (inherits ts refl)
  no_header (type_header.Class p) (header.Implements ts) inherits implements = absurd (implements ts refl)
  no_header (type_header.Class p) d inherits implements = refl

  module _ (d : DeclarationLine) (inherits : (ts : List TypeName) → d ≡ header.Inherits ts → ⊥) (implements : (ts : List TypeName) → d ≡ header.Implements ts → ⊥)
      (variables : (m : List Modifier) (ds : List Declarator) → d ≡ header.Variables m ds → ⊥) (constants : (m : List Modifier) (ds : List Declarator) → d ≡ header.Constants m ds → ⊥)
      (property : (m : List Modifier) (p : PropertyHeader) → d ≡ header.Property m p → ⊥)
      (event : (m : List Modifier) (n : Name) (e : EventHandler) (is : List ImplementedMember) → d ≡ header.Event m n e is → ⊥)
      (custom_event : (m : List Modifier) (n : Name) (t : TypeName) → d ≡ header.CustomEvent m n t → ⊥) where
    by_form : (x : DeclarationLine) → d ≡ x → procedure_turn h ms line x ≡ members_turn h ms line (item.Declares x)
    by_form (header.Sub m s is) e =
        with_block_or_not (must_override m) (item.Declares (header.Sub m s is)) (m, member.Sub s is None) (body (scope.Procedure line (item.Declares (header.Sub m s is))))
    by_form (header.Constructor m ps is) e =
        with_block_or_not (must_override m) (item.Declares (header.Constructor m ps is)) (m, member.Constructor ps is None) (body (scope.Procedure line (item.Declares (header.Constructor m ps is))))
    by_form (header.Function m k s t is) e =
        with_block_or_not (must_override m) (item.Declares (header.Function m k s t is)) (m, member.Function k s t is None) (body (scope.Procedure line (item.Declares (header.Function m k s t is))))
    by_form (header.Variables m ds) e = absurd (variables m ds e)
    by_form (header.Constants m ds) e = absurd (constants m ds e)
    by_form (header.Property m p) e = absurd (property m p e)
    by_form (header.Event m n v is) e = absurd (event m n v is e)
    by_form (header.CustomEvent m n t) e = absurd (custom_event m n t e)
    by_form (header.Inherits ts) e = absurd (inherits ts e)
    by_form (header.Implements ts) e = absurd (implements ts e)
    by_form x e = no_header h x (λ ts f. inherits ts (e ∙ f)) (λ ts f. implements ts (e ∙ f))

    pub other_member : (r : Result Turn Fault) (x : DeclarationLine) → Gives (λ t. t) r (procedure_turn h ms line x) → d ≡ x → Gives (λ t. t) r (members_turn h ms line (item.Declares d))
    other_member r x g e = subst (λ (y : DeclarationLine). Gives (λ t. t) r (members_turn h ms line (item.Declares y))) (sym e) (subst (λ (o : Option Turn). Gives (λ t. t) r o) (by_form x e) g)
