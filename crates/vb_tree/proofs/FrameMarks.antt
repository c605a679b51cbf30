-- What a turn does to the blocks that are open, whatever the innermost frame is.
use Rattle.std.proofs.Common.{◌≡◌, ℕ, Bool, true, false, ◌&&◌, ◌||◌, List, [], ◌∷◌, ◌++◌, Option, Some, None, refl, ap, sym, ◌∙◌, subst, if◌then◌else◌}
use Rattle.vb_syntax.specs.{declared.{types.TypeName.TypeName, declaration.{Modifier.Modifier, MemberForm.MemberForm, Member.Member, InterfaceHeader.InterfaceHeader, InterfaceMember.InterfaceMember}, item.{PropertyHeader.PropertyHeader, Item.Item}}, Items.{must_override, is_property_of_interface}}
use Rattle.vb_syntax.specs.declared.statement.LocalModifier.TheVariants as local
use Rattle.vb_syntax.specs.declared.declaration.FunctionKind.TheVariants as function
use Rattle.vb_syntax.specs.declared.declaration.MemberForm.TheVariants as member
use Rattle.vb_syntax.specs.declared.declaration.InterfaceHeader.TheVariants as interface_header
use Rattle.vb_syntax.specs.declared.declaration.TypeForm.TheVariants as type_form
use Rattle.vb_syntax.specs.declared.item.DeclarationLine.TheVariants as header
use Rattle.vb_syntax.specs.declared.item.BlockWord.TheVariants as word
use Rattle.vb_syntax.specs.declared.item.Item.TheVariants as item
use Rattle.vb_ends.specs.{declared.role.{Sort.Sort, Role.Role}, Roles.{accessor_sort, goes_on_property, is_header_of_interface, item_role, opens_or_ends}}
use Rattle.vb_ends.specs.declared.role.Sort.TheVariants as sort
use Rattle.vb_ends.specs.declared.role.Role.TheVariants as role
use Rattle.vb_blocks.specs.declared.scope.Scope.TheVariants as scope
use Rattle.vb_blocks.specs.declared.scope.AccessorHeader.TheVariants as accessor_header
use Rattle.vb_blocks.specs.{declared.frame.{Frame.Frame, PropertyParts.PropertyParts, EventParts.EventParts, TypeHeader.TypeHeader, ClassParts.ClassParts, InterfaceParts.InterfaceParts, FileParts.FileParts, Turn.Turn}, Trees.{member_of, bare_member, interface_member}, Steps.{State, body, is_line, takes_get, takes_set, property_of, property_turn, takes_accessor, custom_event, event_turn, member_opened, only, before_all, class_based, class_implements, class_of, header_turn, member_or_header, interface_inherits, interface_of, interface_at, is_empty, file_turn, frame_turn, popped, automatic, automatic_form, reopened_last, reopened_as}}
use Rattle.vb_blocks.specs.declared.frame.Frame.TheVariants as frame
use Rattle.vb_blocks.specs.declared.frame.TypeHeader.TheVariants as type_header
use Rattle.vb_blocks.specs.declared.frame.Whole.TheVariants as is
use Rattle.vb_blocks.specs.declared.frame.Turn.TheVariants as turn
use Rattle.vb_tree.proofs.{MemberRows.popped_append, StatementMarks.{ends_as, Begins, begins_body, begins_other, opens_with, select_next_marks, line_marks}, Sorts.{frame_sort, open_sorts, is_interface, Leaves, reopened_at, IsSettled, some_state, settled_other, settled_new, Goes, Marked, marked_as, marked_if, goes_settled}}

if_some : {A : Type 0} (b : Bool) (x y : A) → (if b then Some x else None) ≡ Some y → (b ≡ true) × (x ≡ y)
if_some true x y e = (refl, cc)
if_some false x y e = absurd cc

not_bare : {A : Type 0} (b : Bool) (m : A) → (if b then Some m else None) ≡ None → b ≡ false
not_bare true m e = absurd cc
not_bare false m e = refl

and_false : (b : Bool) → (b && false) ≡ false
and_false true = refl
and_false false = refl

-- PROPERTIES AND EVENTS

opens_if : (b : Bool) (f : Frame) (x : Item) (h : Frame) → Begins f x h → (t : Turn) → (if b then Some (turn.Opens f h) else None) ≡ Some t → Marked f x t
opens_if b f x h i t e = marked_if b f x (turn.Opens f h) t (opens_with f x h i) e

property_marks : (p : PropertyParts) (line : ℕ) (x : Item) (t : Turn) → property_turn p line x ≡ Some t → Marked (frame.Property p) x t
property_marks p line (item.Declares (header.Get a)) t e =
    let h : Frame = body (scope.Accessor (accessor_header.Get line a)) in
    opens_if (takes_get p.get p.set) (frame.Property p) (item.Declares (header.Get a)) h
    (begins_body (frame.Property p) (item.Declares (header.Get a)) (scope.Accessor (accessor_header.Get line a)) sort.Get refl (λ next. refl) h refl) t e
property_marks p line (item.Declares (header.Set a ps)) t e =
    let h : Frame = body (scope.Accessor (accessor_header.Set line a ps)) in
    opens_if (takes_set p.set) (frame.Property p) (item.Declares (header.Set a ps)) h
    (begins_body (frame.Property p) (item.Declares (header.Set a ps)) (scope.Accessor (accessor_header.Set line a ps)) sort.Set refl (λ next. refl) h refl) t e
property_marks p line (item.End word.Property) t e = ends_as (frame.Property p) (item.End word.Property) (is.Member (property_of p)) sort.Property refl (λ next. refl) refl t e
property_marks p line x t e = absurd cc

event_marks : (v : EventParts) (line : ℕ) (x : Item) (t : Turn) → event_turn v line x ≡ Some t → Marked (frame.Event v) x t
event_marks v line (item.Declares (header.EventAccessor k ps)) t e =
    let h : Frame = body (scope.Accessor (accessor_header.Event line k ps)) in
    opens_if (takes_accessor k v) (frame.Event v) (item.Declares (header.EventAccessor k ps)) h
    (begins_body (frame.Event v) (item.Declares (header.EventAccessor k ps)) (scope.Accessor (accessor_header.Event line k ps)) (accessor_sort k) refl (λ next. refl) h refl) t e
event_marks v line (item.End word.Event) t e = ends_as (frame.Event v) (item.End word.Event) (is.Member (custom_event v)) sort.Event refl (λ next. refl) refl t e
event_marks v line x t e = absurd cc

-- MEMBERS WITHOUT A BLOCK

abbrev with_member : TypeHeader → List Member → ℕ → List Modifier × MemberForm → Frame
with_member h ms line m = frame.Members h (ms ++ member_of line m ∷ [])

-- what a bare member does to blocks before this item, where it is in no interface
abbrev bare_role : Item → Option Item → Role
bare_role x next = item_role false (Some x) next

property_stays : (b : Bool) → opens_or_ends (if b then None else if false then Some sort.Property else None) None ≡ role.Stays
property_stays true = refl
property_stays false = refl

-- a header of a property is the only bare member that opens a block, and only before what goes on with it
bare_stays : (x : Item) (m : List Modifier × MemberForm) → bare_member x ≡ Some m → (next : Option Item) → goes_on_property next ≡ false → bare_role x next ≡ role.Stays
bare_stays (item.Declaration local.Dim ds) m e next out = refl
bare_stays (item.Declaration local.Const ds) m e next out = refl
bare_stays (item.Declares (header.Variables ms ds)) m e next out = refl
bare_stays (item.Declares (header.Constants ms ds)) m e next out = refl
bare_stays (item.Declares (header.Event ms n h is_)) m e next out = refl
bare_stays (item.Declares (header.Sub ms s is_)) m e next out =
    ap (λ (b : Bool). opens_or_ends (if b || false then None else Some sort.Sub) None) (if_some (must_override ms) (ms, member.Sub s is_ None) m e).0
bare_stays (item.Declares (header.Constructor ms s is_)) m e next out =
    ap (λ (b : Bool). opens_or_ends (if b then None else Some sort.Sub) None) (if_some (must_override ms) (ms, member.Constructor s is_ None) m e).0
bare_stays (item.Declares (header.Function ms k s t is_)) m e next out =
    ap (λ (b : Bool). opens_or_ends (if b || false then None else Some sort.Function) None) (if_some (must_override ms) (ms, member.Function k s t is_ None) m e).0
bare_stays (item.Declares (header.Property ms h)) m e next out =
    ap (λ (b : Bool). opens_or_ends (if must_override ms || false then None else if b then Some sort.Property else None) None) out ∙ property_stays (must_override ms || false)
bare_stays x m e next out = absurd cc

if_none : {A : Type 0} (b : Bool) (x y : A) → (if b then None else Some x) ≡ Some y → b ≡ false
if_none true x y e = absurd cc
if_none false x y e = refl

other_form : (line : ℕ) (m n : List Modifier × MemberForm) (p : PropertyParts) → m ≡ n → automatic_form line m.0 m.1 ≡ None → automatic_form line n.0 n.1 ≡ Some p → ⊥
other_form line m n p e none some =
    let bad : ◌≡◌ {A = Option PropertyParts} None (Some p) = sym none ∙ ap (λ (v : List Modifier × MemberForm). automatic_form line v.0 v.1) e ∙ some in cc

-- where an item goes on with it, the property has a block
bare_opens : (line : ℕ) (x : Item) (m : List Modifier × MemberForm) → bare_member x ≡ Some m → (p : PropertyParts) → automatic_form line m.0 m.1 ≡ Some p → (next : Option Item) → goes_on_property next ≡ true
    → bare_role x next ≡ role.Opens sort.Property
bare_opens line (item.Declares (header.Property ms h)) m e p was next on =
    let same : ◌≡◌ {A = List Modifier × MemberForm} (ms, member.Property h None) m = cc in
    let q = if_none (must_override ms) (record { line = line; modifiers = ms; header = h; get = None; set = None }) p (ap (λ (v : List Modifier × MemberForm). automatic_form line v.0 v.1) same ∙ was) in
    ap (λ (b : Bool). opens_or_ends (if b || false then None else if goes_on_property next then Some sort.Property else None) None) q
    ∙ ap (λ (b : Bool). opens_or_ends (if b then Some sort.Property else None) None) on
bare_opens line (item.Declaration local.Dim ds) m e p was next on = absurd (other_form line ([], member.Variables ds) m p (cc e) refl was)
bare_opens line (item.Declaration local.Const ds) m e p was next on = absurd (other_form line ([], member.Constants ds) m p (cc e) refl was)
bare_opens line (item.Declares (header.Variables ms ds)) m e p was next on = absurd (other_form line (ms, member.Variables ds) m p (cc e) refl was)
bare_opens line (item.Declares (header.Constants ms ds)) m e p was next on = absurd (other_form line (ms, member.Constants ds) m p (cc e) refl was)
bare_opens line (item.Declares (header.Event ms n h is_)) m e p was next on = absurd (other_form line (ms, member.Event n h is_) m p (cc e) refl was)
bare_opens line (item.Declares (header.Sub ms s is_)) m e p was next on =
    absurd (other_form line (ms, member.Sub s is_ None) m p (if_some (must_override ms) (ms, member.Sub s is_ None) m e).1 refl was)
bare_opens line (item.Declares (header.Constructor ms s is_)) m e p was next on =
    absurd (other_form line (ms, member.Constructor s is_ None) m p (if_some (must_override ms) (ms, member.Constructor s is_ None) m e).1 refl was)
bare_opens line (item.Declares (header.Function ms k s t is_)) m e p was next on =
    absurd (other_form line (ms, member.Function k s t is_ None) m p (if_some (must_override ms) (ms, member.Function k s t is_ None) m e).1 refl was)
bare_opens line x m e p was next on = absurd cc

-- where the last member is put back as the property that it may be
reopened_leaves : (h : TypeHeader) (ms : List Member) (line : ℕ) (x : Item) (m : List Modifier × MemberForm) → bare_member x ≡ Some m → (next : Option Item) → goes_on_property next ≡ true → (fs : List Frame)
    → (o : Option PropertyParts) → automatic_form line m.0 m.1 ≡ o → (st : State) → reopened_as h ms fs o ≡ Some st
    → Leaves (bare_role x next) (open_sorts (frame.Members h ms ∷ fs)) (open_sorts (st.0 ∷ st.1))
reopened_leaves h ms line x m b next on fs None was st e = absurd cc
reopened_leaves h ms line x m b next on fs (Some p) was st e =
    let P : Role → Type 0 = λ r. Leaves r (open_sorts (frame.Members h ms ∷ fs)) (open_sorts (st.0 ∷ st.1)) in
    subst P (sym (bare_opens line x m b p was next on)) (ap (λ (q : State). open_sorts (q.0 ∷ q.1)) (sym (some_state (frame.Property p, frame.Members h ms ∷ fs) st e)))

stayed_leaves : (h : TypeHeader) (ms : List Member) (line : ℕ) (x : Item) (m : List Modifier × MemberForm) → bare_member x ≡ Some m → (next : Option Item) → goes_on_property next ≡ false → (fs : List Frame)
    → (st : State) → ◌≡◌ {A = Option State} (Some (with_member h ms line m, fs)) (Some st)
    → Leaves (bare_role x next) (open_sorts (frame.Members h ms ∷ fs)) (open_sorts (st.0 ∷ st.1))
stayed_leaves h ms line x m b next out fs st e =
    let P : Role → Type 0 = λ r. Leaves r (open_sorts (frame.Members h ms ∷ fs)) (open_sorts (st.0 ∷ st.1)) in
    subst P (sym (bare_stays x m b next out)) (ap (λ (q : State). open_sorts (q.0 ∷ q.1)) (sym (some_state (with_member h ms line m, fs) st e)))

choice_leaves : (h : TypeHeader) (ms : List Member) (line : ℕ) (x : Item) (m : List Modifier × MemberForm) → bare_member x ≡ Some m → (y : Item) (b : Bool) → goes_on_property (Some y) ≡ b → (fs : List Frame)
    → (st : State) → (if b then reopened_last h fs (popped (ms ++ member_of line m ∷ [])) else Some (with_member h ms line m, fs)) ≡ Some st
    → Leaves (bare_role x (Some y)) (open_sorts (frame.Members h ms ∷ fs)) (open_sorts (st.0 ∷ st.1))
choice_leaves h ms line x m i y true on fs st e =
    reopened_leaves h ms line x m i (Some y) on fs (automatic (member_of line m)) refl st (sym (ap (reopened_last h fs) (popped_append ms (member_of line m))) ∙ e)
choice_leaves h ms line x m i y false out fs st e = stayed_leaves h ms line x m i (Some y) out fs st e

bare_leaves : (h : TypeHeader) (ms : List Member) (line : ℕ) (x : Item) (m : List Modifier × MemberForm) → bare_member x ≡ Some m → (next : Option Item) (fs : List Frame) (st : State)
    → reopened_at next (with_member h ms line m) fs ≡ Some st → Leaves (bare_role x next) (open_sorts (frame.Members h ms ∷ fs)) (open_sorts (st.0 ∷ st.1))
bare_leaves h ms line x m i None fs st e = stayed_leaves h ms line x m i None refl fs st e
bare_leaves h ms line x m i (Some y) fs st e = choice_leaves h ms line x m i y (goes_on_property (Some y)) refl fs st e

bare_goes : (h : TypeHeader) (ms : List Member) (line : ℕ) (x : Item) (m : List Modifier × MemberForm) → bare_member x ≡ Some m → Goes (frame.Members h ms) x (with_member h ms line m)
bare_goes h ms line x m i = record { leaves = bare_leaves h ms line x m i }

-- MEMBERS

procedure_begins : (h : TypeHeader) (ms : List Member) (line : ℕ) (x : Item) (k : Frame) → bare_member x ≡ None → member_opened line x ≡ Some k → Begins (frame.Members h ms) x k
procedure_begins h ms line (item.Declares (header.Sub m s is_)) k i e =
    begins_body (frame.Members h ms) (item.Declares (header.Sub m s is_)) (scope.Procedure line (item.Declares (header.Sub m s is_))) sort.Sub refl
    (λ next. ap (λ (b : Bool). opens_or_ends (if b || false then None else Some sort.Sub) None) (not_bare (must_override m) (m, member.Sub s is_ None) i)) k e
procedure_begins h ms line (item.Declares (header.Constructor m s is_)) k i e =
    begins_body (frame.Members h ms) (item.Declares (header.Constructor m s is_)) (scope.Procedure line (item.Declares (header.Constructor m s is_))) sort.Sub refl
    (λ next. ap (λ (b : Bool). opens_or_ends (if b then None else Some sort.Sub) None) (not_bare (must_override m) (m, member.Constructor s is_ None) i)) k e
procedure_begins h ms line (item.Declares (header.Function m f s t is_)) k i e =
    begins_body (frame.Members h ms) (item.Declares (header.Function m f s t is_)) (scope.Procedure line (item.Declares (header.Function m f s t is_))) sort.Function refl
    (λ next. ap (λ (b : Bool). opens_or_ends (if b || false then None else Some sort.Function) None) (not_bare (must_override m) (m, member.Function f s t is_ None) i)) k e
procedure_begins h ms line (item.Declares (header.CustomEvent m n d)) k i e =
    let v : Frame = frame.Event (record { line = line; modifiers = m; name = n; delegate = d; add_handler = None; remove_handler = None; raise_event = None }) in
    begins_other (frame.Members h ms) (item.Declares (header.CustomEvent m n d)) v sort.Event refl (λ next. refl) (settled_other v refl) k e
procedure_begins h ms line x k i e = absurd cc

goes_new : (h g : TypeHeader) (ms : List Member) (x : Item) → frame_sort (frame.Members g []) ≡ frame_sort (frame.Members h ms) → ((next : Option Item) → bare_role x next ≡ role.Stays)
    → (t : Turn) → ◌≡◌ {A = Option Turn} (Some (turn.Goes (frame.Members g []))) (Some t) → Marked (frame.Members h ms) x t
goes_new h g ms x same is t e =
    marked_as (frame.Members h ms) x (turn.Goes (frame.Members g [])) t (goes_settled (frame.Members h ms) x (frame.Members g []) same (settled_new g) is) e

class_based_marks : (p : ClassParts) (ms : List Member) (line : ℕ) (ts : List TypeName) (o : Option TypeName) (t : Turn) → class_based p line o ≡ Some t
    → Marked (frame.Members (type_header.Class p) ms) (item.Declares (header.Inherits ts)) t
class_based_marks p ms line ts None t e = absurd cc
class_based_marks p ms line ts (Some u) t e =
    goes_new (type_header.Class p) (type_header.Class (record {
      line = p.line;
      access = p.access;
      modifier = p.modifier;
      name = p.name;
      type_parameters = p.type_parameters;
      base = Some (record { line = line; base = u });
      implements = p.implements;
    })) ms (item.Declares (header.Inherits ts)) refl (λ next. refl) t e

class_implements_marks : (p : ClassParts) (ms : List Member) (line : ℕ) (ts : List TypeName) (t : Turn) → class_implements p line ts ms ≡ Some t
    → Marked (frame.Members (type_header.Class p) ms) (item.Declares (header.Implements ts)) t
class_implements_marks p [] line ts t e =
    goes_new (type_header.Class p) (type_header.Class (record {
      line = p.line;
      access = p.access;
      modifier = p.modifier;
      name = p.name;
      type_parameters = p.type_parameters;
      base = p.base;
      implements = p.implements ++ record { line = line; interfaces = ts } ∷ [];
    })) [] (item.Declares (header.Implements ts)) refl (λ next. refl) t e
class_implements_marks p (m ∷ ms) line ts t e = absurd cc

header_marks : (h : TypeHeader) (ms : List Member) (line : ℕ) (x : Item) (t : Turn) → header_turn h ms line x ≡ Some t → Marked (frame.Members h ms) x t
header_marks (type_header.Module l a n) ms line (item.End word.Module) t e =
    ends_as (frame.Members (type_header.Module l a n) ms) (item.End word.Module) (is.Type (record { line = l; access = a; name = n; form = type_form.Module ms })) sort.Module refl (λ next. refl) tt t e
header_marks (type_header.Module l a n) ms line x t e = absurd cc
header_marks (type_header.Class p) ms line (item.End word.Class) t e =
    ends_as (frame.Members (type_header.Class p) ms) (item.End word.Class) (is.Type (class_of p ms)) sort.Class refl (λ next. refl) tt t e
header_marks (type_header.Class p) ms line (item.Declares (header.Inherits ts)) t e = class_based_marks p ms line ts (before_all p.base p.implements ms (only ts)) t e
header_marks (type_header.Class p) ms line (item.Declares (header.Implements ts)) t e = class_implements_marks p ms line ts t e
header_marks (type_header.Class p) ms line x t e = absurd cc

member_marks : (h : TypeHeader) (ms : List Member) (line : ℕ) (x : Item) (m : Option (List Modifier × MemberForm)) (o : Option Frame) (t : Turn) → bare_member x ≡ m → member_opened line x ≡ o
    → member_or_header h ms line x m o ≡ Some t → Marked (frame.Members h ms) x t
member_marks h ms line x (Some m) o t i was e = marked_as (frame.Members h ms) x (turn.Goes (with_member h ms line m)) t (bare_goes h ms line x m i) e
member_marks h ms line x None (Some k) t i was e =
    marked_as (frame.Members h ms) x (turn.Opens (frame.Members h ms) k) t (opens_with (frame.Members h ms) x k (procedure_begins h ms line x k i was)) e
member_marks h ms line x None None t i was e = header_marks h ms line x t e

-- INTERFACES

-- a header of a member of an interface opens nothing there
abbrev StaysInside : Item → Type 0
StaysInside x = (next : Option Item) → item_role true (Some x) next ≡ role.Stays

property_inside : (h : PropertyHeader) (v : InterfaceHeader) (o : Option InterfaceHeader) → (b : Bool) → is_property_of_interface h ≡ b → (if b then o else None) ≡ Some v → StaysInside (item.Declares (header.Property [] h))
property_inside h v o true is_ e = λ next. ap (λ (b : Bool). opens_or_ends (if b then None else if goes_on_property next then Some sort.Property else None) None) is_
property_inside h v o false is_ e = absurd cc

stays_inside : (x : Item) (h : InterfaceHeader) → interface_member x ≡ Some h → StaysInside x
stays_inside (item.Declares (header.Sub [] s [])) h e = λ next. refl
stays_inside (item.Declares (header.Function [] function.Regular s t [])) h e = λ next. refl
stays_inside (item.Declares (header.Property [] p)) h e = property_inside p h (Some (interface_header.Property p.kind p.name p.declared)) (is_property_of_interface p) refl e
stays_inside (item.Declares (header.Event [] n k [])) h e = λ next. refl
stays_inside x h e = absurd cc

interface_goes : (p q : InterfaceParts) (x : Item) → StaysInside x → (t : Turn) → ◌≡◌ {A = Option Turn} (Some (turn.Goes (frame.Interface q))) (Some t) → Marked (frame.Interface p) x t
interface_goes p q x i t e =
    marked_as (frame.Interface p) x (turn.Goes (frame.Interface q)) t (goes_settled (frame.Interface p) x (frame.Interface q) refl (settled_other (frame.Interface q) refl) i) e

interface_inherits_marks : (p : InterfaceParts) (line : ℕ) (ts : List TypeName) (ms : List InterfaceMember) (t : Turn) → interface_inherits p line ts ms ≡ Some t
    → Marked (frame.Interface p) (item.Declares (header.Inherits ts)) t
interface_inherits_marks p line ts [] t e =
    interface_goes p (record { line = p.line; access = p.access; name = p.name; type_parameters = p.type_parameters; inherits = p.inherits ++ record { line = line; interfaces = ts } ∷ []; members = [] })
    (item.Declares (header.Inherits ts)) (λ next. refl) t e
interface_inherits_marks p line ts (m ∷ ms) t e = absurd cc

interface_marks : (p : InterfaceParts) (line : ℕ) (x : Item) (o : Option InterfaceHeader) (t : Turn) → interface_member x ≡ o → interface_at p line x o ≡ Some t → Marked (frame.Interface p) x t
interface_marks p line x (Some h) t was e =
    interface_goes p (record { line = p.line; access = p.access; name = p.name; type_parameters = p.type_parameters; inherits = p.inherits; members = p.members ++ record { line = line; header = h } ∷ [] })
    x (stays_inside x h was) t e
interface_marks p line (item.Declares (header.Inherits ts)) None t was e = interface_inherits_marks p line ts p.members t e
interface_marks p line (item.End word.Interface) None t was e =
    ends_as (frame.Interface p) (item.End word.Interface) (is.Type (interface_of p)) sort.Interface refl (λ next. refl) tt t e
interface_marks p line x None t was e = absurd cc

-- FILES

file_goes : (p q : FileParts) (x : Item) → ((next : Option Item) → item_role false (Some x) next ≡ role.Stays) → Marked (frame.File p) x (turn.Goes (frame.File q))
file_goes p q x is_ = goes_settled (frame.File p) x (frame.File q) refl (settled_other (frame.File q) refl) is_

file_opens : (p : FileParts) (x : Item) (k : Frame) (s : Sort) → frame_sort k ≡ Some s → ((next : Option Item) → item_role false (Some x) next ≡ role.Opens s)
    → IsSettled k → (t : Turn) → ◌≡◌ {A = Option Turn} (Some (turn.Opens (frame.File p) k)) (Some t) → Marked (frame.File p) x t
file_opens p x k s new is_ settled t e =
    marked_as (frame.File p) x (turn.Opens (frame.File p) k) t (opens_with (frame.File p) x k (begins_other (frame.File p) x k s new is_ settled k refl)) e

file_marks : (p : FileParts) (line : ℕ) (x : Item) (t : Turn) → file_turn p line x ≡ Some t → Marked (frame.File p) x t
file_marks p line (item.Option s) t e =
    let q : FileParts = record { options = p.options ++ record { line = line; setting = s } ∷ []; imports = p.imports; types = p.types } in
    marked_if (is_empty p.imports && is_empty p.types) (frame.File p) (item.Option s) (turn.Goes (frame.File q)) t (file_goes p q (item.Option s) (λ next. refl)) e
file_marks p line (item.Imports ns) t e =
    let q : FileParts = record { options = p.options; imports = p.imports ++ record { line = line; namespaces = ns } ∷ []; types = p.types } in
    marked_if (is_empty p.types) (frame.File p) (item.Imports ns) (turn.Goes (frame.File q)) t (file_goes p q (item.Imports ns) (λ next. refl)) e
file_marks p line (item.Declares (header.Delegate a k n ps xs u)) t e =
    let q : FileParts = record { options = p.options; imports = p.imports; types = p.types ++ record { line = line; access = a; name = n; form = type_form.Delegate k ps xs u } ∷ [] } in
    marked_as (frame.File p) (item.Declares (header.Delegate a k n ps xs u)) (turn.Goes (frame.File q)) t (file_goes p q (item.Declares (header.Delegate a k n ps xs u)) (λ next. refl)) e
file_marks p line (item.Declares (header.Module a n)) t e =
    file_opens p (item.Declares (header.Module a n)) (frame.Members (type_header.Module line a n) []) sort.Module refl (λ next. refl) (settled_new (type_header.Module line a n)) t e
file_marks p line (item.Declares (header.Class a c n ps)) t e =
    let h : TypeHeader = type_header.Class (record { line = line; access = a; modifier = c; name = n; type_parameters = ps; base = None; implements = [] }) in
    file_opens p (item.Declares (header.Class a c n ps)) (frame.Members h []) sort.Class refl (λ next. refl) (settled_new h) t e
file_marks p line (item.Declares (header.Interface a n ps)) t e =
    let k : Frame = frame.Interface (record { line = line; access = a; name = n; type_parameters = ps; inherits = []; members = [] }) in
    file_opens p (item.Declares (header.Interface a n ps)) k sort.Interface refl (λ next. refl) (settled_other k refl) t e
file_marks p line x t e = absurd cc

-- ALL FRAMES

pub frame_marks : (f : Frame) (line : ℕ) (x : Item) (t : Turn) → frame_turn f line x ≡ Some t → Marked f x t
frame_marks (frame.Body s ss) line x t e = line_marks (is_line s) s ss line x t e
frame_marks (frame.Select l v) line x t e = select_next_marks (frame.Select l v) refl (record { line = l; value = v; cases = [] }) line x t e
frame_marks (frame.Property p) line x t e = property_marks p line x t e
frame_marks (frame.Event v) line x t e = event_marks v line x t e
frame_marks (frame.Members h ms) line x t e = member_marks h ms line x (bare_member x) (member_opened line x) t refl refl e
frame_marks (frame.Interface p) line x t e = interface_marks p line x (interface_member x) t refl e
frame_marks (frame.File p) line x t e = file_marks p line x t e
