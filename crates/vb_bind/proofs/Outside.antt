-- The file around the statements of Main: what is read is of the grammar, and what is of the grammar is read.
use Rattle.std.proofs.Common.{◌≡◌, Bool, true, List, [], ◌∷◌, Option, Some, None, refl, ap, subst, ◌∙◌}
use Rattle.std.specs.Prelude.{◌&&◌, if◌then◌else◌}
use Rattle.vb_text.specs.declared.names.Name.{Name}
use Rattle.vb_syntax.specs.declared.{statement.Statement.Statement as SyntaxStatement, types.TypeParameter.TypeParameter, declaration.{Access.Access, ImportsStatement.ImportsStatement, Member.Member, MemberForm.MemberForm, MethodSignature.MethodSignature, Modifier.Modifier, Parameter.Parameter, TypeDeclaration.TypeDeclaration, TypeForm.TypeForm, SourceFile.SourceFile}}
use Rattle.vb_syntax.specs.declared.declaration.MemberForm.TheVariants as member
use Rattle.vb_syntax.specs.declared.declaration.TypeForm.TheVariants as type_form
use Rattle.vb_bind.specs.{declared.names.KnownNames.KnownNames, Grammar.{IsImportsOf, IsModuleOf, IsMainOf, IsFileOf, IsName}, Parsing.{and_then, name_read, only, is_empty, is_system, members_at, members_read, is_main_signature, main_at, main_read, file_read}}
use Rattle.vb_bind.proofs.{Trees.{then_is, if_is, and_is, same_is, same_self}, Declared.{name_sound, name_made}}

only_is : {X : Type 0} (xs : List X) (x : X) → only xs ≡ Some x → xs ≡ x ∷ []
only_is [] x e = absurd cc
only_is (y ∷ []) x e = let is : y ≡ x = cc in ap (λ z. z ∷ []) is
only_is (y ∷ z ∷ xs) x e = absurd cc

empty_is : {X : Type 0} (xs : List X) → is_empty xs ≡ true → xs ≡ []
empty_is [] e = refl
empty_is (x ∷ xs) e = absurd cc

module _ (known : KnownNames) where
  abbrev system_list : List (List Name)
  system_list = (known.system ∷ []) ∷ []

  -- IMPORTS

  system_sound : (ns : List (List Name)) → is_system known ns ≡ true → ns ≡ system_list
  system_sound ((n ∷ []) ∷ []) e = ap (λ x. (x ∷ []) ∷ []) (same_is n known.system e)
  system_sound ns e = absurd cc

  pub imports_sound : (i : ImportsStatement) → is_system known i.namespaces ≡ true → IsImportsOf known i
  imports_sound i e = system_sound i.namespaces e

  pub imports_made : (i : ImportsStatement) → IsImportsOf known i → is_system known i.namespaces ≡ true
  imports_made i h = ap (λ ns. is_system known ns) h ∙ same_self known.system

  -- MODULES

  members_at_is : (a : Option Access) (f : TypeForm) (ms : List Member) → members_at a f ≡ Some ms → (a ≡ None) × (f ≡ type_form.Module ms)
  members_at_is None (type_form.Module ns) ms e = let is : ns ≡ ms = cc in (refl, ap (λ x. type_form.Module x) is)
  members_at_is a f ms e = absurd cc

  pub members_sound : (d : TypeDeclaration) (ms : List Member) → members_read d ≡ Some ms → IsModuleOf d ms
  members_sound d ms e = let is = members_at_is d.access d.form ms e in record { access = is.0; is_form = is.1 }

  pub members_made : (d : TypeDeclaration) (ms : List Member) → IsModuleOf d ms → members_read d ≡ Some ms
  members_made d ms h = ap (λ a. members_at a d.form) h.access ∙ ap (λ f. members_at None f) h.is_form

  -- MAIN

  abbrev main_signature : MethodSignature
  main_signature = record { name = known.main; type_parameters = []; parameters = [] }

  signature_is : (g : MethodSignature) → is_main_signature known g ≡ true → g ≡ main_signature
  signature_is g e =
      let one = and_is _ _ e in
      let two = and_is _ _ one.1 in
      let first : g ≡ record { name = known.main; type_parameters = g.type_parameters; parameters = g.parameters } = ap (λ (n : Name). record { name = n; type_parameters = g.type_parameters; parameters = g.parameters }) (same_is g.name known.main one.0) in
      let second : ◌≡◌ {A = MethodSignature} (record { name = known.main; type_parameters = g.type_parameters; parameters = g.parameters }) (record { name = known.main; type_parameters = []; parameters = g.parameters }) = ap (λ (ps : List TypeParameter). record { name = known.main; type_parameters = ps; parameters = g.parameters }) (empty_is g.type_parameters two.0) in
      let third : ◌≡◌ {A = MethodSignature} (record { name = known.main; type_parameters = []; parameters = g.parameters }) main_signature = ap (λ (ps : List Parameter). record { name = known.main; type_parameters = []; parameters = ps }) (empty_is g.parameters two.1) in
      first ∙ second ∙ third

  main_at_is : (ms : List Modifier) (f : MemberForm) (body : List SyntaxStatement) → main_at known ms f ≡ Some body → (ms ≡ []) × (f ≡ member.Sub main_signature [] (Some body))
  main_at_is [] (member.Sub g [] (Some ss)) body e =
      let k = if_is (is_main_signature known g) (Some ss) body e in
      let is : ss ≡ body = let m = k.1 in cc in
      (refl, ap (λ x. member.Sub x [] (Some ss)) (signature_is g k.0) ∙ ap (λ x. member.Sub main_signature [] (Some x)) is)
  main_at_is ms f body e = absurd cc

  pub main_sound : (x : Member) (body : List SyntaxStatement) → main_read known x ≡ Some body → IsMainOf known x body
  main_sound x body e = let is = main_at_is x.modifiers x.form body e in record { modifiers = is.0; is_form = is.1 }

  signature_made : is_main_signature known main_signature ≡ true
  signature_made = ap (λ (b : Bool). b && true) (same_self known.main)

  pub main_made : (x : Member) (body : List SyntaxStatement) → IsMainOf known x body → main_read known x ≡ Some body
  main_made x body h =
      ap (λ ms. main_at known ms x.form) h.modifiers
      ∙ ap (λ f. main_at known [] f) h.is_form
      ∙ ap (λ (b : Bool). if b then Some body else None) signature_made

  -- THE FILE

  pub file_sound : (file : SourceFile) (m : Name) (body : List SyntaxStatement) → file_read known file ≡ Some (m, body) → IsFileOf known file m body × IsName known m
  file_sound file m body e =
      let want : Name × List SyntaxStatement = (m, body) in
      let a = if_is (is_empty file.options) _ want e in
      let i = then_is (only file.imports) _ want a.1 in
      let s = if_is (is_system known i.0.namespaces) _ want i.2 in
      let d = then_is (only file.types) _ want s.1 in
      let n = then_is (name_read known d.0.name) _ want d.2 in
      let ms = then_is (members_read d.0) _ want n.2 in
      let x = then_is (only ms.0) _ want ms.2 in
      let b = then_is (main_read known x.0) _ want x.2 in
      let pair : ◌≡◌ {A = Name × List SyntaxStatement} (n.0, b.0) want = let k = b.2 in cc in
      let m_is : n.0 ≡ m = ap (λ (p : Name × List SyntaxStatement). p.0) pair in
      let body_is : b.0 ≡ body = ap (λ (p : Name × List SyntaxStatement). p.1) pair in
      let name = name_sound known d.0.name n.0 n.1 in
      let members = only_is ms.0 x.0 x.1 in (
        record {
          imports = i.0;
          declared = d.0;
          main = x.0;
          no_options = empty_is file.options a.0;
          one_imports = only_is file.imports i.0 i.1;
          is_imports = imports_sound i.0 s.0;
          one_type = only_is file.types d.0 d.1;
          named = name.0 ∙ m_is;
          is_module = subst (λ z. IsModuleOf d.0 z) members (members_sound d.0 ms.0 ms.1);
          is_main = subst (λ z. IsMainOf known x.0 z) body_is (main_sound x.0 b.0 b.1);
        },
        subst (λ z. IsName known z) m_is name.1,
      )

  pub file_made : (file : SourceFile) (m : Name) (body : List SyntaxStatement) → IsFileOf known file m body → IsName known m → file_read known file ≡ Some (m, body)
  file_made file m body f name =
      let in_main : Name → Member → Option (Name × List SyntaxStatement) = λ n x. and_then (main_read known x) (λ b. Some (n, b)) in
      let in_module : TypeDeclaration → Name → Option (Name × List SyntaxStatement) = λ d n. and_then (members_read d) (λ ms. and_then (only ms) (λ x. in_main n x)) in
      let in_types : List TypeDeclaration → Option (Name × List SyntaxStatement) = λ ts. and_then (only ts) (λ d. and_then (name_read known d.name) (λ n. in_module d n)) in
      let in_imports : List ImportsStatement → Option (Name × List SyntaxStatement) = λ is. and_then (only is) (λ i. if is_system known i.namespaces then in_types file.types else None) in
      ap (λ os. if is_empty os then in_imports file.imports else None) f.no_options
      ∙ ap in_imports f.one_imports
      ∙ ap (λ (b : Bool). if b then in_types file.types else None) (imports_made f.imports f.is_imports)
      ∙ ap in_types f.one_type
      ∙ ap (λ n. and_then (name_read known n) (λ n. in_module f.declared n)) f.named
      ∙ ap (λ o. and_then o (λ n. in_module f.declared n)) (name_made known m name)
      ∙ ap (λ o. and_then o (λ ms. and_then (only ms) (λ x. in_main m x))) (members_made f.declared (f.main ∷ []) f.is_module)
      ∙ ap (λ o. and_then o (λ b. Some (m, b))) (main_made f.main body f.is_main)
