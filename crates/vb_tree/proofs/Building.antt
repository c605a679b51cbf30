-- Whatever the rows of a file lead to stands for them, so that a tree which is built is theirs.
use Rattle.std.proofs.Common.{◌≡◌, ℕ, Bool, true, false, List, [], ◌∷◌, ◌++◌, Option, Some, None, refl, ap, sym, ◌∙◌, append_assoc, append-nil, subst, if◌then◌else◌}
use Rattle.vb_syntax.specs.{declared.{statement.Statement.Statement, declaration.{Modifier.Modifier, Member.Member}, item.{Joint.Joint, Item.Item, Row.Row}}, Items.must_override}
use Rattle.vb_syntax.specs.declared.item.DeclarationLine.TheVariants as header
use Rattle.vb_syntax.specs.declared.item.BlockWord.TheVariants as word
use Rattle.vb_syntax.specs.declared.item.Item.TheVariants as item
use Rattle.vb_blocks.specs.declared.frame.{Frame.Frame, TypeHeader.TypeHeader}
use Rattle.vb_blocks.specs.declared.frame.Frame.TheVariants as frame
use Rattle.vb_blocks.specs.Trees as tree
use Rattle.vb_blocks.specs.Trees.{
  row,
  whole,
  statement,
  member_of,
  simple_form,
  enclosed,
  else_if,
  case,
  catch,
  last_clause,
  bare_member,
  procedure,
  IsSimple,
  AreSimple,
  IsStatement,
  AreStatements,
  AreElseIfs,
  AreCases,
  AreCatches,
  IsLastClause,
  IsGet,
  IsSet,
  IsEventAccessor,
  AreEventAccessors,
  IsMember,
  AreMembers,
  IsBase,
  AreInterfaceLists,
  AreInterfaceMembers,
  IsType,
  AreTypes,
  AreOptions,
  AreImports,
}
use Rattle.vb_tree.proofs.{MemberRows.parts, Standing.{a_type, takes, IsTypeFront, Stands, stands_body, stands_line, stands_select, stands_property, stands_event, stands_members, stands_interface, stands_file, Holds, bottom, inside}, Holding.frame_holds}
use Rattle.vb_syntax.specs.declared.declaration.{MemberForm.MemberForm, SourceFile.SourceFile}
use Rattle.vb_syntax.specs.declared.declaration.MemberForm.TheVariants as member
use Rattle.vb_blocks.specs.{Steps.{State, finished, step, popped, popped_behind, automatic, automatic_form, reopened, reopened_as, reopened_last, reopened_step, item_step, run, run_on, start}, Trees.IsTree, declared.frame.PropertyParts.PropertyParts}
use Rattle.vb_ends.specs.Roles.{goes_on_property}
use Rattle.vb_syntax.specs.declared.statement.LocalModifier.TheVariants as local

-- AN AUTOMATIC PROPERTY

pub record Split (rows : List Row) (m : Member) (ms : List Member) : Type 0 where
  pub before : List Member
  pub last : Member
  pub are : popped (m ∷ ms) ≡ Some (before, last)
  pub front : List Row
  pub end : List Row
  pub same : rows ≡ front ++ end
  pub members : AreMembers front before
  pub member : IsMember end last

split : {rows : List Row} {m : Member} {ms : List Member} → AreMembers rows (m ∷ ms) → Split rows m ms
split (tree.more {rows = r} {m = m} c tree.nothing) =
    record { before = []; last = m; are = refl; front = []; end = r; same = append-nil r; members = tree.nothing; member = c }
split (tree.more {rows = r} {m = m} c (tree.more {rows = a} {others = b} {m = u} {ms = us} d ds)) =
    let p : Split (a ++ b) u us = split (tree.more d ds) in
    record {
      before = m ∷ p.before;
      last = p.last;
      are = ap (popped_behind m) p.are;
      front = r ++ p.front;
      end = p.end;
      same = ap (λ (x : List Row). r ++ x) p.same ∙ sym (append_assoc r p.front p.end);
      members = tree.more c p.members;
      member = p.member;
    }

if_some : {A : Type 0} (b : Bool) (x y : A) → (if b then Some x else None) ≡ Some y → x ≡ y
if_some true x y e = cc
if_some false x y e = absurd cc

if_none : {A : Type 0} (b : Bool) (x y : A) → (if b then None else Some x) ≡ Some y → (b ≡ false) × (x ≡ y)
if_none true x y e = absurd cc
if_none false x y e = (refl, cc)

abbrev form_of : ℕ → List Modifier × MemberForm → Option PropertyParts
form_of line m = automatic_form line m.0 m.1

other_form : (line : ℕ) (m n : List Modifier × MemberForm) (p : PropertyParts) → m ≡ n → form_of line m ≡ None → form_of line n ≡ Some p → ⊥
other_form line m n p e none some =
    let no : ◌≡◌ {A = Option PropertyParts} None (Some p) = sym none ∙ ap (form_of line) e ∙ some in cc

bare_automatic : (line : ℕ) (x : Item) (m : List Modifier × MemberForm) (p : PropertyParts) → bare_member x ≡ Some m → form_of line m ≡ Some p → Stands (frame.Property p) (whole line x ∷ [])
bare_automatic line (item.Declares (header.Property ms h)) m p e was =
    let same : ◌≡◌ {A = List Modifier × MemberForm} (ms, member.Property h None) m = cc in
    let q = if_none (must_override ms) (parts line ms h None None) p (ap (form_of line) same ∙ was) in
    subst (λ (v : PropertyParts). Stands (frame.Property v) (whole line (item.Declares (header.Property ms h)) ∷ [])) q.1 (stands_property q.0 tree.none tree.none)
bare_automatic line (item.Declaration local.Dim ds) m p e was = absurd (other_form line ([], member.Variables ds) m p (cc e) refl was)
bare_automatic line (item.Declaration local.Const ds) m p e was = absurd (other_form line ([], member.Constants ds) m p (cc e) refl was)
bare_automatic line (item.Declares (header.Variables ms ds)) m p e was = absurd (other_form line (ms, member.Variables ds) m p (cc e) refl was)
bare_automatic line (item.Declares (header.Constants ms ds)) m p e was = absurd (other_form line (ms, member.Constants ds) m p (cc e) refl was)
bare_automatic line (item.Declares (header.Event ms n h is_)) m p e was = absurd (other_form line (ms, member.Event n h is_) m p (cc e) refl was)
bare_automatic line (item.Declares (header.Sub ms s is_)) m p e was =
    absurd (other_form line (ms, member.Sub s is_ None) m p (if_some (must_override ms) (ms, member.Sub s is_ None) m e) refl was)
bare_automatic line (item.Declares (header.Constructor ms s is_)) m p e was =
    absurd (other_form line (ms, member.Constructor s is_ None) m p (if_some (must_override ms) (ms, member.Constructor s is_ None) m e) refl was)
bare_automatic line (item.Declares (header.Function ms k s t is_)) m p e was =
    absurd (other_form line (ms, member.Function k s t is_ None) m p (if_some (must_override ms) (ms, member.Function k s t is_ None) m e) refl was)
bare_automatic line x m p e was = absurd cc

no_procedure : (line : ℕ) (x : Item) (ss : List Statement) (y : Item) (m : List Modifier × MemberForm) (p : PropertyParts) → procedure x ss y ≡ Some m → form_of line m ≡ Some p → ⊥
no_procedure line (item.Declares (header.Sub ms s is_)) ss (item.End word.Sub) m p e was =
    other_form line (ms, member.Sub s is_ (Some ss)) m p (if_none (must_override ms) (ms, member.Sub s is_ (Some ss)) m e).1 refl was
no_procedure line (item.Declares (header.Constructor ms s is_)) ss (item.End word.Sub) m p e was =
    other_form line (ms, member.Constructor s is_ (Some ss)) m p (if_none (must_override ms) (ms, member.Constructor s is_ (Some ss)) m e).1 refl was
no_procedure line (item.Declares (header.Function ms k s t is_)) ss (item.End word.Function) m p e was =
    other_form line (ms, member.Function k s t is_ (Some ss)) m p (if_none (must_override ms) (ms, member.Function k s t is_ (Some ss)) m e).1 refl was
no_procedure line x ss y m p e was = cc

automatic_stands : {rows : List Row} {m : Member} → IsMember rows m → (p : PropertyParts) → automatic m ≡ Some p → Stands (frame.Property p) rows
automatic_stands (tree.bare {line = line} {x = x} {m = m} e) p was = bare_automatic line x m p e was
automatic_stands (tree.block {line = line} {x = x} last y {body = b} {m = m} d e) p was = absurd (no_procedure line x b y m p e was)
automatic_stands (tree.property last free g s) p was = absurd cc
automatic_stands (tree.custom_event last i) p was = absurd cc

some_state : (p q : State) → ◌≡◌ {A = Option State} (Some p) (Some q) → p ≡ q
some_state p q e = cc

automatic_holds : (h : TypeHeader) (ms : List Member) (fs : List Frame) (a front q : List Row) (g : Frame) → Holds g fs a → takes g a_type ≡ true → IsTypeFront h front → AreMembers q ms
    → (b : List Row) (m : Member) → IsMember b m → (o : Option PropertyParts) → automatic m ≡ o → (st : State) → reopened_as h ms (g ∷ fs) o ≡ Some st → Holds st.0 st.1 (a ++ (front ++ (q ++ b)))
automatic_holds h ms fs a front q g hs t fr d b m i None was st e = absurd cc
automatic_holds h ms fs a front q g hs t fr d b m i (Some p) was st e =
    let P : State → Type 0 = λ v. Holds v.0 v.1 (a ++ (front ++ (q ++ b))) in
    let same : (a ++ (front ++ q)) ++ b ≡ a ++ (front ++ (q ++ b)) = simp append_assoc in
    subst P (some_state (frame.Property p, frame.Members h ms ∷ g ∷ fs) st e)
    (subst (λ (r : List Row). Holds (frame.Property p) (frame.Members h ms ∷ g ∷ fs) r) same (inside (inside hs t (stands_members fr d)) refl (automatic_stands i p was)))

last_holds : (h : TypeHeader) (ms : List Member) (fs : List Frame) (rows : List Row) → Holds (frame.Members h ms) fs rows → (st : State) → reopened_last h fs (popped ms) ≡ Some st → Holds st.0 st.1 rows
last_holds h ms fs rows (bottom k s) st e = absurd cc
last_holds h [] (g ∷ gs) rows (inside i t s) st e = absurd cc
last_holds h (m ∷ ms) (g ∷ gs) rows (inside {rows = a} i t (stands_members {front = front} {rows = q} fr d)) st e =
    let p = split d in
    let f : reopened_as h p.before (g ∷ gs) (automatic p.last) ≡ Some st = sym (ap (reopened_last h (g ∷ gs)) p.are) ∙ e in
    subst (λ (r : List Row). Holds st.0 st.1 (a ++ (front ++ r))) (sym p.same)
    (automatic_holds h p.before gs a front p.front g i t fr p.members p.end p.last p.member (automatic p.last) refl st f)

choice_holds : (b : Bool) (h : TypeHeader) (ms : List Member) (fs : List Frame) (rows : List Row) → Holds (frame.Members h ms) fs rows → (st : State)
    → (if b then reopened_last h fs (popped ms) else Some (frame.Members h ms, fs)) ≡ Some st → Holds st.0 st.1 rows
choice_holds true h ms fs rows i st e = last_holds h ms fs rows i st e
choice_holds false h ms fs rows i st e = let P : State → Type 0 = λ v. Holds v.0 v.1 rows in subst P (some_state (frame.Members h ms, fs) st e) i

pub reopened_holds : (x : Item) (f : Frame) (fs : List Frame) (rows : List Row) → Holds f fs rows → (st : State) → reopened x f fs ≡ Some st → Holds st.0 st.1 rows
reopened_holds x (frame.Members h ms) fs rows i st e = choice_holds (goes_on_property (Some x)) h ms fs rows i st e
reopened_holds x f fs rows i st e = let P : State → Type 0 = λ v. Holds v.0 v.1 rows in subst P (some_state (f, fs) st e) i

-- ALL ROWS

after_reopened : (line : ℕ) (x : Item) (j : Joint) (o : Option State) (rows : List Row) → ((st : State) → o ≡ Some st → Holds st.0 st.1 rows) → (st : State)
    → reopened_step line x j o ≡ Some st → Holds st.0 st.1 (rows ++ row line x j ∷ [])
after_reopened line x j None rows h st e = absurd cc
after_reopened line x j (Some q) rows h st e = frame_holds q.0 q.1 rows (h q refl) line x j st e

item_holds : (f : Frame) (fs : List Frame) (rows : List Row) → Holds f fs rows → (line : ℕ) (j : Joint) (o : Option Item) (st : State) → item_step f fs line j o ≡ Some st
    → Holds st.0 st.1 (rows ++ record { line = line; item = o; behind = j } ∷ [])
item_holds f fs rows h line j None st e = absurd cc
item_holds f fs rows h line j (Some x) st e = after_reopened line x j (reopened x f fs) rows (reopened_holds x f fs rows h) st e

pub step_holds : (f : Frame) (fs : List Frame) (rows : List Row) → Holds f fs rows → (r : Row) (st : State) → step f fs r ≡ Some st → Holds st.0 st.1 (rows ++ r ∷ [])
step_holds f fs rows h r st e = item_holds f fs rows h r.line r.behind r.item st e

on_holds : (more : List Row) (r : Row) (o : Option State) (rows : List Row) → ((st : State) → o ≡ Some st → Holds st.0 st.1 (rows ++ r ∷ []))
    → ((f : Frame) (fs : List Frame) (before : List Row) → Holds f fs before → (st : State) → run more f fs ≡ Some st → Holds st.0 st.1 (before ++ more)) → (st : State)
    → run_on (run more) o ≡ Some st → Holds st.0 st.1 (rows ++ r ∷ more)
on_holds more r None rows h go st e = absurd cc
on_holds more r (Some q) rows h go st e = subst (λ (x : List Row). Holds st.0 st.1 x) (append_assoc rows (r ∷ []) more) (go q.0 q.1 (rows ++ r ∷ []) (h q refl) st e)

run_holds : (more : List Row) (f : Frame) (fs : List Frame) (rows : List Row) → Holds f fs rows → (st : State) → run more f fs ≡ Some st → Holds st.0 st.1 (rows ++ more)
run_holds [] f fs rows h st e =
    let P : State → Type 0 = λ v. Holds v.0 v.1 (rows ++ []) in
    subst P (some_state (f, fs) st e) (subst (λ (r : List Row). Holds f fs r) (sym (append-nil rows)) h)
run_holds (r ∷ more) f fs rows h st e =
    on_holds more r (step f fs r) rows (step_holds f fs rows h r) (λ g gs before i st' w. run_holds more g gs before i st' w) st e

pub start_holds : Holds start [] []
start_holds = bottom refl (stands_file tree.nothing tree.nothing tree.nothing)

pub rows_hold : (rows : List Row) (st : State) → run rows start [] ≡ Some st → Holds st.0 st.1 rows
rows_hold rows st e = run_holds rows start [] [] start_holds st e

unfinished : (n : ℕ) (f g : Frame) (gs : List Frame) (t : SourceFile) → finished n f (g ∷ gs) ≡ Some t → ⊥
unfinished n (frame.File p) g gs t e = cc
unfinished n f g gs t e = cc

-- what is built is the tree of the rows
pub finished_is : (n : ℕ) (f : Frame) (fs : List Frame) (rows : List Row) (t : SourceFile) → Holds f fs rows → finished n f fs ≡ Some t → IsTree n rows t
finished_is n f fs rows t (bottom k (stands_file {os = os} {is = is_} {ts = ts} a b c)) e =
    let same : ◌≡◌ {A = SourceFile} (record { file = n; options = os; imports = is_; types = ts }) t = cc in
    subst (λ (u : SourceFile). IsTree n rows u) same (tree.file a b c)
finished_is n f fs rows t (bottom k (stands_body l fr d)) e = absurd cc
finished_is n f fs rows t (bottom k (stands_line fr d)) e = absurd cc
finished_is n f fs rows t (bottom k stands_select) e = absurd cc
finished_is n f fs rows t (bottom k (stands_property free i j)) e = absurd cc
finished_is n f fs rows t (bottom k (stands_event i)) e = absurd cc
finished_is n f fs rows t (bottom k (stands_members fr d)) e = absurd cc
finished_is n f fs rows t (bottom k (stands_interface i d)) e = absurd cc
finished_is n f (g ∷ gs) rows t (inside i u s) e = absurd (unfinished n f g gs t e)
