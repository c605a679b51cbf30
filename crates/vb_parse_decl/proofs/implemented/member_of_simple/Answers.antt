use Rattle.std.proofs.Common.{sym, ◌∙◌, ap}
use Rattle.vb_parse_decl.specs.MemberReading.{member_of_simple}
use Rattle.vb_parse_decl.proofs.LastNames.{qualified_member, built_in_member}
use Rattle.vb_parse_decl.proofs.implemented.member_of_simple.Goals as goal

pub returns-in-Qualified : goal.returns-in-Qualified
returns-in-Qualified c = c.member_of_names.ensures ∙ sym (qualified_member c.in-Qualified.name) ∙ ap member_of_simple (sym c.in-Qualified.is)

pub returns-in-BuiltIn : goal.returns-in-BuiltIn
returns-in-BuiltIn c = sym (ap member_of_simple c.in-BuiltIn.is ∙ built_in_member c.in-BuiltIn.field-0)
