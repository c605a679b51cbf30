-- Names and declarations: what is read is of the grammar, and what is of the grammar is read.
use Rattle.std.proofs.Common.{◌≡◌, ◌⊎◌, inl, inr, ⊎_elim, ℕ, zero, suc, ◌+◌, ◌<◌, Bool, true, List, [], ◌∷◌, ◌++◌, length, Option, Some, None, refl, sym, ap, subst, ◌∙◌, arith, append_assoc, append-nil, length-append}
use Rattle.std.specs.Prelude.{if◌then◌else◌, not, slice_get, unwrap_or}
use Rattle.vb_text.specs.declared.names.Name.{Name}
use Rattle.vb_syntax.specs.declared.types.PrimitiveTypeName.TheVariants as primitive
use Rattle.vb_syntax.specs.declared.types.BuiltInTypeName.TheVariants as built_in
use Rattle.vb_syntax.specs.declared.types.SimpleTypeName.TheVariants as simple
use Rattle.vb_syntax.specs.declared.{types.TypeName.TypeName, expression.{Expr.Expr as SyntaxExpr, VariableInitializer.VariableInitializer}, declarator.{VariableIdentifier.VariableIdentifier, VariableModifier.VariableModifier, Declarator.Declarator}, statement.{Statement.Statement as SyntaxStatement, StatementForm.StatementForm}}
use Rattle.vb_syntax.specs.declared.types.TypeName.TheVariants as type_name
use Rattle.vb_syntax.specs.declared.expression.Expr.TheVariants as tree
use Rattle.vb_syntax.specs.declared.expression.VariableInitializer.TheVariants as init
use Rattle.vb_syntax.specs.declared.declarator.VariableModifier.TheVariants as modifier
use Rattle.vb_syntax.specs.declared.declarator.Declarator.TheVariants as declarator
use Rattle.vb_syntax.specs.declared.statement.LocalModifier.TheVariants as local
use Rattle.vb_syntax.specs.declared.statement.StatementForm.TheVariants as form
use Rattle.vb_bound.specs.{declared.tree.{LocalId.LocalId, Operand.{Operand, TheVariants.{Local, Number}}, Statement.{Statement, TheVariants.{Assign, WriteLine}}}, Tree.{Block, Done, Then, Loop, IsOperandOf, IsInitialOf, AreLocals}}
use Rattle.vb_bind.specs.{declared.names.KnownNames.KnownNames, Grammar.{operand_tree, initial_tree, statement_form, dim_form, AreDims, IsBlockOf, IsIn, IsName, AreDistinctNames, IsFitInitial, AreFitInitials}, Parsing.{and_then, is_one_of, is_free, number_read, name_read, is_new, local_from, operand_read, initial_read, is_integer_type, is_plain, variable_read, declarator_read, declared_read, dim_read, Front, front, dim_or, front_read}}
use Rattle.vb_bind.proofs.{Trees.{then_is, if_is, not_is, any_none, any_made, integer_type_is, plain_is}, OneStatement.{local_sound, operand_sound, get_some, operand_made}}

pub get_front : (ns more : List Name) (k : ℕ) (s : Name) → slice_get ns k ≡ Some s → slice_get (ns ++ more) k ≡ Some s
get_front [] more k s e = absurd cc
get_front (n ∷ ns) more zero s e = e
get_front (n ∷ ns) more (suc k) s e = get_front ns more k s e

pub get_len : (ns : List Name) (k : ℕ) (s : Name) → slice_get ns k ≡ Some s → k < length ns
get_len [] k s e = absurd cc
get_len (n ∷ ns) zero s e = omega arith
get_len (n ∷ ns) (suc k) s e = let more = get_len ns k s e in omega (arith, more)

pub operand_widen : (names more : List Name) (p : Operand) → IsOperandOf (length names) p → operand_tree names p ≡ operand_tree (names ++ more) p
operand_widen names more (Local x) lt = let got = get_some names x.0 lt in ap (λ o. tree.SimpleName (unwrap_or o (record { index = 0 })) []) (got.1 ∙ sym (get_front names more x.0 got.0 got.1))
operand_widen names more (Number v) lt = refl

pub local_bound : (names : List Name) (s : Name) (x : LocalId) → local_from 0 names s ≡ Some x → x.0 < length names
local_bound names s x h =
    let found = local_sound 0 names s x h in
    let lt = get_len names found.0 s found.2 in
    omega (arith, lt, found.1)

number_bound : (names : List Name) (t : SyntaxExpr) (p : Operand) → and_then (number_read t) (λ v. Some (Number v)) ≡ Some p → IsOperandOf (length names) p
number_bound names t p e =
    let v = then_is (number_read t) (λ v. Some (Number v)) p e in
    let is : Number v.0 ≡ p = let m = v.2 in cc in
    subst (λ q. IsOperandOf (length names) q) is tt

pub operand_bound : (names : List Name) (t : SyntaxExpr) (p : Operand) → operand_read names t ≡ Some p → IsOperandOf (length names) p
operand_bound names (tree.SimpleName s []) p e =
    let x = then_is (local_from 0 names s) (λ x. Some (Local x)) p e in
    let is : Local x.0 ≡ p = let m = x.2 in cc in
    subst (λ q. IsOperandOf (length names) q) is (local_bound names s x.0 x.1)
operand_bound names t p e = number_bound names t p e

pub init_sound : (names more : List Name) (i : Option VariableInitializer) (d : Option Operand) → initial_read names i ≡ Some d → (i ≡ initial_tree (names ++ more) d) × IsFitInitial d
init_sound names more None d e = let is : None ≡ d = cc in (ap (λ x. initial_tree (names ++ more) x) is, subst (λ x. IsFitInitial x) is tt)
init_sound names more (Some (init.Expression x)) d e =
    let p = then_is (operand_read names x) (λ p. Some (Some p)) d e in
    let is : Some p.0 ≡ d = let m = p.2 in cc in
    let operand = operand_sound names x p.0 p.1 in
    let part = operand.0 ∙ operand_widen names more p.0 (operand_bound names x p.0 p.1) in
    (ap (λ t. Some (init.Expression t)) part ∙ ap (λ y. initial_tree (names ++ more) y) is, subst (λ y. IsFitInitial y) is operand.1)
init_sound names more (Some i) d e = absurd cc

pub init_made : (known : KnownNames) (names more : List Name) (d : Option Operand) → AreDistinctNames known names → IsInitialOf (length names) d → IsFitInitial d → initial_read names (initial_tree (names ++ more) d) ≡ Some d
init_made known names more None d h f = refl
init_made known names more (Some p) d h f =
    ap (λ t. and_then (operand_read names t) (λ q. Some (Some q))) (sym (operand_widen names more p h)) ∙ ap (λ o. and_then o (λ q. Some (Some q))) (operand_made known names p d h f)

pub name_sound : (known : KnownNames) (n s : Name) → name_read known n ≡ Some s → (n ≡ s) × IsName known s
name_sound known n s e =
    let k = if_is (is_free known n) (Some n) s e in
    let is : n ≡ s = let m = k.1 in cc in
    let taken : List Name = known.system ∷ known.console ∷ known.main ∷ [] in
    let name : IsName known n = any_none n taken (not_is (is_one_of n taken) k.0) in
    (is, subst (λ x. IsName known x) is name)

pub name_made : (known : KnownNames) (s : Name) → IsName known s → name_read known s ≡ Some s
name_made known s n = ap (λ (b : Bool). if not b then Some s else None) (any_made s (known.system ∷ known.console ∷ known.main ∷ []) n)

abbrev plain_variable : Name → VariableIdentifier
plain_variable s = record { name = s; modifier = modifier.Plain }

abbrev integer_type : TypeName
integer_type = type_name.Simple (simple.BuiltIn (built_in.Primitive primitive.Integer))

variable_sound : (known : KnownNames) (vs : List VariableIdentifier) (s : Name) → variable_read known vs ≡ Some s → (vs ≡ plain_variable s ∷ []) × IsName known s
variable_sound known [] s e = absurd cc
variable_sound known (v ∷ []) s e =
    let k = if_is (is_plain v.modifier) (name_read known v.name) s e in
    let name = name_sound known v.name s k.1 in
    let plain : v ≡ plain_variable v.name = ap (λ (m : VariableModifier). record { name = v.name; modifier = m }) (plain_is v.modifier k.0) in
    (ap (λ x. x ∷ []) (plain ∙ ap plain_variable name.0), name.1)
variable_sound known (v ∷ w ∷ vs) s e = absurd cc

declarator_sound : (known : KnownNames) (names more : List Name) (a : Declarator) (s : Name) (d : Option Operand) → declarator_read known names a ≡ Some (s, d) → (a ≡ declarator.As (plain_variable s ∷ []) integer_type (initial_tree (names ++ more) d)) × IsName known s × IsFitInitial d
declarator_sound known names more (declarator.As vs t i) s d e =
    let k = if_is (is_integer_type t) (and_then (variable_read known vs) (λ s. and_then (initial_read names i) (λ d. Some (s, d)))) (s, d) e in
    let name = then_is (variable_read known vs) (λ s. and_then (initial_read names i) (λ d. Some (s, d))) (s, d) k.1 in
    let first = then_is (initial_read names i) (λ d. Some (name.0, d)) (s, d) name.2 in
    let pair : ◌≡◌ {A = Name × Option Operand} (name.0, first.0) (s, d) = let m = first.2 in cc in
    let s_is : name.0 ≡ s = ap (λ (p : Name × Option Operand). p.0) pair in
    let d_is : first.0 ≡ d = ap (λ (p : Name × Option Operand). p.1) pair in
    let variable = variable_sound known vs name.0 name.1 in
    let value = init_sound names more i first.0 first.1 in (
      ap (λ x. declarator.As x t i) (variable.0 ∙ ap (λ n. plain_variable n ∷ []) s_is)
          ∙ ap (λ x. declarator.As (plain_variable s ∷ []) x i) (integer_type_is t k.0)
          ∙ ap (λ x. declarator.As (plain_variable s ∷ []) integer_type x) (value.0 ∙ ap (λ x. initial_tree (names ++ more) x) d_is),
      subst (λ x. IsName known x) s_is variable.1,
      subst (λ x. IsFitInitial x) d_is value.1,
    )
declarator_sound known names more a s d e = absurd cc

declared_sound : (known : KnownNames) (names more : List Name) (all : List Declarator) (s : Name) (d : Option Operand) → declared_read known names all ≡ Some (s, d) → (form.LocalDeclaration local.Dim all ≡ dim_form (names ++ more) s d) × IsName known s × IsFitInitial d
declared_sound known names more [] s d e = absurd cc
declared_sound known names more (a ∷ []) s d e = let one = declarator_sound known names more a s d e in (ap (λ x. form.LocalDeclaration local.Dim (x ∷ [])) one.0, one.1, one.2)
declared_sound known names more (a ∷ b ∷ more_of) s d e = absurd cc

pub dim_sound : (known : KnownNames) (names more : List Name) (f : StatementForm) (s : Name) (d : Option Operand) → dim_read known names f ≡ Some (s, d) → (f ≡ dim_form (names ++ more) s d) × IsName known s × IsFitInitial d
dim_sound known names more (form.LocalDeclaration local.Dim all) s d e = declared_sound known names more all s d e
dim_sound known names more f s d e = absurd cc

pub dim_made : (known : KnownNames) (names more : List Name) (s : Name) (i : Option Operand) → AreDistinctNames known names → IsName known s → IsInitialOf (length names) i → IsFitInitial i → dim_read known names (dim_form (names ++ more) s i) ≡ Some (s, i)
dim_made known names more s i d n h f =
    ap (λ o. and_then o (λ s. and_then (initial_read names (initial_tree (names ++ more) i)) (λ i. Some (s, i)))) (name_made known s n)
    ∙ ap (λ o. and_then o (λ i. Some (s, i))) (init_made known names more i d h f)

-- each name is new beside the module's and those before it
abbrev pub Chain : KnownNames → Name → List Name → List Name → Type 0
Chain known m names [] = Unit {0}
Chain known m names (s ∷ ns) = IsName known s × (IsIn s (m ∷ names) → ⊥) × Chain known m (names ++ s ∷ []) ns

pub new_made : (m : Name) (names : List Name) (s : Name) → (IsIn s (m ∷ names) → ⊥) → is_new m names s ≡ true
new_made m names s h = ap not (any_made s (m ∷ names) h)

pub new_sound : (m : Name) (names : List Name) (s : Name) → is_new m names s ≡ true → IsIn s (m ∷ names) → ⊥
new_sound m names s h = any_none s (m ∷ names) (not_is (is_one_of s (m ∷ names)) h)

pub in_append : (s : Name) (xs ys : List Name) → IsIn s (xs ++ ys) → IsIn s xs ⊎ IsIn s ys
in_append s [] ys h = inr h
in_append s (x ∷ xs) ys (inl e) = inl (inl e)
in_append s (x ∷ xs) ys (inr h) = ⊎_elim (λ k. inl (inr k)) (λ k. inr k) (in_append s xs ys h)

pub in_back : (s : Name) (xs ys : List Name) → IsIn s ys → IsIn s (xs ++ ys)
in_back s [] ys h = h
in_back s (x ∷ xs) ys h = inr (in_back s xs ys h)

pub in_front : (s : Name) (xs ys : List Name) → IsIn s xs → IsIn s (xs ++ ys)
in_front s [] ys h = absurd h
in_front s (x ∷ xs) ys (inl e) = inl e
in_front s (x ∷ xs) ys (inr h) = inr (in_front s xs ys h)

pub distinct_more : (known : KnownNames) (xs : List Name) (s : Name) → AreDistinctNames known xs → IsName known s → (IsIn s xs → ⊥) → AreDistinctNames known (xs ++ s ∷ [])
distinct_more known [] s d n h = (n, λ k. k, tt)
distinct_more known (x ∷ xs) s d n h =
    (d.0, λ k. ⊎_elim d.1 (λ j. ⊎_elim (λ (e : x ≡ s). h (inl (sym e))) (λ f. f) j) (in_append x xs (s ∷ []) k), distinct_more known xs s d.2 n (λ k. h (inr k)))

pub distinct_of : (known : KnownNames) (m : Name) (names ns : List Name) → AreDistinctNames known (m ∷ names) → Chain known m names ns → AreDistinctNames known (m ∷ (names ++ ns))
distinct_of known m names [] d c = subst (λ x. AreDistinctNames known (m ∷ x)) (sym (append-nil names)) d
distinct_of known m names (s ∷ ns) d c = subst (λ x. AreDistinctNames known (m ∷ x)) (append_assoc names (s ∷ []) ns) (distinct_of known m (names ++ s ∷ []) ns (distinct_more known (m ∷ names) s d c.0 c.1) c.2)

pub distinct_front : (known : KnownNames) (xs ys : List Name) → AreDistinctNames known (xs ++ ys) → AreDistinctNames known xs
distinct_front known [] ys d = tt
distinct_front known (x ∷ xs) ys d = (d.0, λ k. d.1 (in_front x xs ys k), distinct_front known xs ys d.2)

pub distinct_at : (known : KnownNames) (xs ns : List Name) (s : Name) → AreDistinctNames known (xs ++ s ∷ ns) → IsName known s × (IsIn s xs → ⊥)
distinct_at known [] ns s d = (d.0, λ k. k)
distinct_at known (x ∷ xs) ns s d =
    let more = distinct_at known xs ns s d.2 in
    (more.0, λ k. ⊎_elim (λ (e : s ≡ x). d.1 (in_back x xs (s ∷ ns) (inl (sym e)))) more.1 k)

-- the statements are declarations of these, and such a front is behind them
pub record FrontIs (known : KnownNames) (m : Name) (names : List Name) (locals : List (Option Operand)) (ss : List SyntaxStatement) (f : Front) : Type 0 where
  pub more : List Name
  pub inits : List (Option Operand)
  pub dims : List SyntaxStatement
  pub statements : ss ≡ dims ++ f.behind
  pub names_are : f.names ≡ names ++ more
  pub locals_are : f.locals ≡ locals ++ inits
  pub are_dims : AreDims (names ++ more) more inits dims
  pub chain : Chain known m names more
  pub fit : AreFitInitials inits

front_none : (known : KnownNames) (m : Name) (names : List Name) (locals : List (Option Operand)) (ss : List SyntaxStatement) (f : Front) → Some (front names locals ss) ≡ Some f → FrontIs known m names locals ss f
front_none known m names locals ss f e =
    let is : front names locals ss ≡ f = cc in
    record {
      more = [];
      inits = [];
      dims = [];
      statements = ap (λ (x : Front). x.behind) is;
      names_are = sym (ap (λ (x : Front). x.names) is) ∙ sym (append-nil names);
      locals_are = sym (ap (λ (x : Front). x.locals) is) ∙ sym (append-nil locals);
      are_dims = tt;
      chain = tt;
      fit = tt;
    }

pub front_sound : (known : KnownNames) (m : Name) (names : List Name) (locals : List (Option Operand)) (ss : List SyntaxStatement) (f : Front) → front_read known m names locals ss ≡ Some f → FrontIs known m names locals ss f
front_sound known m names locals [] f e = front_none known m names locals [] f e
front_sound known m names locals (x ∷ ss) f e = by_dim (dim_read known names x.form) refl e (λ n d h. front_sound known m (names ++ n ∷ []) (locals ++ d ∷ []) ss f h)
  where
    by_dim : (o : Option (Name × Option Operand)) → dim_read known names x.form ≡ o → dim_or o (Some (front names locals (x ∷ ss))) (λ n d. if is_new m names n then front_read known m (names ++ n ∷ []) (locals ++ d ∷ []) ss else None) ≡ Some f → ((n : Name) (d : Option Operand) → front_read known m (names ++ n ∷ []) (locals ++ d ∷ []) ss ≡ Some f → FrontIs known m (names ++ n ∷ []) (locals ++ d ∷ []) ss f) → FrontIs known m names locals (x ∷ ss) f
    by_dim None none h again = front_none known m names locals (x ∷ ss) f h
    by_dim (Some d) some h again =
        let k = if_is (is_new m names d.0) (front_read known m (names ++ d.0 ∷ []) (locals ++ d.1 ∷ []) ss) f h in
        let rest = again d.0 d.1 k.1 in
        let one = dim_sound known names (d.0 ∷ rest.more) x.form d.0 d.1 some in
        let all : (names ++ d.0 ∷ []) ++ rest.more ≡ names ++ (d.0 ∷ rest.more) = append_assoc names (d.0 ∷ []) rest.more in
        record {
          more = d.0 ∷ rest.more;
          inits = d.1 ∷ rest.inits;
          dims = x ∷ rest.dims;
          statements = ap (λ ys. x ∷ ys) rest.statements;
          names_are = rest.names_are ∙ all;
          locals_are = rest.locals_are ∙ append_assoc locals (d.1 ∷ []) rest.inits;
          are_dims = (one.0, subst (λ ns. AreDims ns rest.more rest.inits rest.dims) all rest.are_dims);
          chain = (one.1, new_sound m names d.0 k.0, rest.chain);
          fit = (one.2, rest.fit);
        }

dim_of_statement : (known : KnownNames) (names all : List Name) (s : Statement) → dim_read known names (statement_form known all s) ≡ None
dim_of_statement known names all (Assign x e) = refl
dim_of_statement known names all (WriteLine e) = refl

stop_at : (known : KnownNames) (m : Name) (names : List Name) (locals : List (Option Operand)) (s : SyntaxStatement) (ss : List SyntaxStatement) → dim_read known names s.form ≡ None → front_read known m names locals (s ∷ ss) ≡ Some (front names locals (s ∷ ss))
stop_at known m names locals s ss e = ap (λ o. dim_or o (Some (front names locals (s ∷ ss))) (λ n d. if is_new m names n then front_read known m (names ++ n ∷ []) (locals ++ d ∷ []) ss else None)) e

-- no statement of a block is a declaration
pub stop_read : (known : KnownNames) (m : Name) (names all : List Name) (locals : List (Option Operand)) (ss : List SyntaxStatement) (b : Block) → IsBlockOf known all ss b → front_read known m names locals ss ≡ Some (front names locals ss)
stop_read known m names all locals ss Done h =
    let P : List SyntaxStatement → Type 0 = λ x. front_read known m names locals x ≡ Some (front names locals x) in
    subst P (sym h) refl
stop_read known m names all locals ss (Then s b) h =
    let P : List SyntaxStatement → Type 0 = λ x. front_read known m names locals x ≡ Some (front names locals x) in
    subst P (sym h.2) (stop_at known m names locals h.0 h.1 (ap (λ f. dim_read known names f) h.3 ∙ dim_of_statement known names all s))
stop_read known m names all locals ss (Loop t b r) h =
    let P : List SyntaxStatement → Type 0 = λ x. front_read known m names locals x ≡ Some (front names locals x) in
    subst P (sym h.3) (stop_at known m names locals h.0 h.2 (ap (λ f. dim_read known names f) h.4))

pub front_made : (known : KnownNames) (m : Name) (names more : List Name) (locals inits : List (Option Operand)) (dims ss : List SyntaxStatement) → AreDims (names ++ more) more inits dims → AreDistinctNames known (m ∷ (names ++ more)) → AreLocals (length names) inits → AreFitInitials inits → ((n : List Name) (l : List (Option Operand)) → front_read known m n l ss ≡ Some (front n l ss)) → front_read known m names locals (dims ++ ss) ≡ Some (front (names ++ more) (locals ++ inits) ss)
front_made known m names [] locals [] [] ss h d a fit stop =
    stop names locals ∙ ap (λ x. Some (front x locals ss)) (sym (append-nil names)) ∙ ap (λ x. Some (front (names ++ []) x ss)) (sym (append-nil locals))
front_made known m names [] locals [] (x ∷ dims) ss h d a fit stop = absurd h
front_made known m names [] locals (i ∷ inits) dims ss h d a fit stop = absurd h
front_made known m names (n ∷ more) locals [] dims ss h d a fit stop = absurd h
front_made known m names (n ∷ more) locals (i ∷ inits) [] ss h d a fit stop = absurd h
front_made known m names (n ∷ more) locals (i ∷ inits) (x ∷ dims) ss h d a fit stop =
    let at = distinct_at known (m ∷ names) more n d in
    let before = distinct_front known names (n ∷ more) d.2 in
    let all : (names ++ n ∷ []) ++ more ≡ names ++ (n ∷ more) = append_assoc names (n ∷ []) more in
    let len : length names + 1 ≡ length (names ++ n ∷ []) = sym (length-append names (n ∷ [])) in
    let go : Name → Option Operand → Option Front = λ s j. if is_new m names s then front_read known m (names ++ s ∷ []) (locals ++ j ∷ []) (dims ++ ss) else None in
    let stopped : Option Front = Some (front names locals (x ∷ (dims ++ ss))) in
    ap (λ f. dim_or (dim_read known names f) stopped go) h.0
    ∙ ap (λ o. dim_or o stopped go) (dim_made known names (n ∷ more) n i before at.0 a.0 fit.0)
    ∙ ap (λ (p : Bool). if p then front_read known m (names ++ n ∷ []) (locals ++ i ∷ []) (dims ++ ss) else None) (new_made m names n at.1)
    ∙ front_made known m (names ++ n ∷ []) more (locals ++ i ∷ []) inits dims ss (subst (λ z. AreDims z more inits dims) (sym all) h.1) (subst (λ z. AreDistinctNames known (m ∷ z)) (sym all) d) (subst (λ k. AreLocals k inits) len a.1) fit.1 stop
    ∙ ap (λ z. Some (front z ((locals ++ i ∷ []) ++ inits) ss)) all
    ∙ ap (λ z. Some (front (names ++ (n ∷ more)) z ss)) (append_assoc locals (i ∷ []) inits)
