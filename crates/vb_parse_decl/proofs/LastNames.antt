-- The last name of a type, by the form of the type.
use Rattle.std.proofs.Common.{◌≡◌, None, refl, ap, sym, ◌∙◌}
use Rattle.vb_syntax.specs.declared.types.{BuiltInTypeName.BuiltInTypeName, QualifiedTypeName.QualifiedTypeName, SimpleTypeName.{SimpleTypeName, out-roll-SimpleTypeName, TheOpen.SimpleTypeName-F, TheVariants.{rolls-BuiltIn, rolls-Qualified}}}
use Rattle.vb_syntax.specs.declared.types.SimpleTypeName.TheVariants as simple
use Rattle.vb_syntax.specs.declared.types.TypeName.TheVariants as type_name
use Rattle.vb_parse_expr.specs.TypeReading.{popped}
use Rattle.vb_parse_decl.specs.MemberReading.{last_name, member_of_simple, member_of}

pub qualified_member : (q : QualifiedTypeName) → member_of_simple (simple.Qualified q) ≡ last_name q.arguments (popped q.parts)
qualified_member q =
    ap member_of_simple (sym (rolls-Qualified q)) ∙ ap (λ y. elim y [ SimpleTypeName-F.BuiltIn b ↦ None | SimpleTypeName-F.Qualified p ↦ last_name p.arguments (popped p.parts) ])
    (out-roll-SimpleTypeName (SimpleTypeName-F.Qualified q))

pub built_in_member : (b : BuiltInTypeName) → member_of_simple (simple.BuiltIn b) ≡ None
built_in_member b =
    ap member_of_simple (sym (rolls-BuiltIn b)) ∙ ap (λ y. elim y [ SimpleTypeName-F.BuiltIn b ↦ None | SimpleTypeName-F.Qualified p ↦ last_name p.arguments (popped p.parts) ])
    (out-roll-SimpleTypeName (SimpleTypeName-F.BuiltIn b))

pub array_member : (x : SimpleTypeName) → member_of (type_name.Array x) ≡ None
unfolding member_of
array_member x = refl

pub simple_member : (x : SimpleTypeName) → member_of (type_name.Simple x) ≡ member_of_simple x
unfolding member_of
simple_member x = refl
