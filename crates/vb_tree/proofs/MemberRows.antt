-- The rows of a member lead from the members before it to those with it.
use Rattle.std.proofs.Common.{◌≡◌, ℕ, Bool, true, false, List, [], ◌∷◌, ◌++◌, Option, Some, None, refl, ap, sym, ◌∙◌, append_assoc, append-nil, if◌then◌else◌}
use Rattle.vb_text.specs.declared.names.Name.{Name}
use Rattle.vb_syntax.specs.{declared.{types.TypeName.TypeName, statement.Statement.Statement, declaration.{Modifier.Modifier, MemberForm.MemberForm, Member.Member, Parameter.Parameter, GetAccessor.GetAccessor, SetAccessor.SetAccessor, EventAccessor.EventAccessor}, item.{PropertyHeader.PropertyHeader, EventAccessorKind.EventAccessorKind, Item.Item, Row.Row}}, Items.must_override}
use Rattle.vb_syntax.specs.declared.declaration.MemberForm.TheVariants as member
use Rattle.vb_syntax.specs.declared.item.EventAccessorKind.TheVariants as accessor
use Rattle.vb_syntax.specs.declared.item.DeclarationLine.TheVariants as header
use Rattle.vb_syntax.specs.declared.item.Item.TheVariants as item
use Rattle.vb_syntax.specs.declared.item.BlockWord.TheVariants as word
use Rattle.vb_syntax.specs.declared.item.Joint.TheVariants as joint
use Rattle.vb_ends.specs.Roles.{goes_on_property}
use Rattle.vb_blocks.specs.declared.scope.Scope.TheVariants as scope
use Rattle.vb_blocks.specs.declared.scope.AccessorHeader.TheVariants as accessor_header
use Rattle.vb_blocks.specs.{declared.frame.{Frame.Frame, PropertyParts.PropertyParts, EventParts.EventParts, TypeHeader.TypeHeader}, Trees.{whole, member_of, simple_form, bare_member, procedure, IsGet, IsSet, none, some, IsEventAccessor, accessor_block, AreEventAccessors, nothing, add, remove, raise, IsMember, bare, block, property, custom_event, AreMembers, more}, Steps.{step, body, opened, turned, put_below, placed, member_or_header, member_opened, procedure_whole, property_of, popped, popped_behind, reopened_last, reopened_as, reopened_step, takes_accessor, with_accessor}}
use Rattle.vb_blocks.specs.declared.frame.Frame.TheVariants as frame
use Rattle.vb_blocks.specs.declared.frame.Turn.TheVariants as turn
use Rattle.vb_blocks.specs.declared.frame.Whole.TheVariants as is
use Rattle.vb_tree.proofs.{Leads.{Leads, here, on, and_on, leads_to, step_turns}, StatementRows.statements_lead}

-- WITHOUT A BLOCK

pub bare_stays : (x : Item) (m : List Modifier × MemberForm) → bare_member x ≡ Some m → goes_on_property (Some x) ≡ false
bare_stays (item.Declares (header.Get a)) m e = absurd cc
bare_stays (item.Declares (header.Set a ps)) m e = absurd cc
bare_stays (item.End w) m e = absurd cc
bare_stays x m e = refl

-- a row that is no accessor, between members
pub step_member : (h : TypeHeader) (ms : List Member) (below : List Frame) (line : ℕ) (x : Item) (m : Option (List Modifier × MemberForm)) (f : Option Frame)
    → goes_on_property (Some x) ≡ false → bare_member x ≡ m → member_opened line x ≡ f
    → step (frame.Members h ms) below (whole line x) ≡ turned (member_or_header h ms line x m f) below
step_member h ms below line x m f stays b o =
    ap (λ (v : Bool). reopened_step line x joint.End (if v then reopened_last h below (popped ms) else Some (frame.Members h ms, below))) stays
    ∙ ap (λ (v : Option (List Modifier × MemberForm)). turned (member_or_header h ms line x v (member_opened line x)) below) b
    ∙ ap (λ (v : Option Frame). turned (member_or_header h ms line x m v) below) o

-- PROCEDURES

no_override : (b : Bool) (m n : List Modifier × MemberForm) → (if b then None else Some m) ≡ Some n → b ≡ false
no_override true m n e = absurd cc
no_override false m n e = refl

pub record BeginsProcedure (line : ℕ) (x : Item) : Type 0 where
  pub stays : goes_on_property (Some x) ≡ false
  pub not_bare : bare_member x ≡ None
  pub opens : member_opened line x ≡ Some (body (scope.Procedure line x))

pub procedure_begins : (line : ℕ) (x : Item) (ss : List Statement) (y : Item) (m : List Modifier × MemberForm) → procedure x ss y ≡ Some m → BeginsProcedure line x
procedure_begins line (item.Declares (header.Sub ms s is)) ss (item.End word.Sub) m e =
    let no = no_override (must_override ms) (ms, member.Sub s is (Some ss)) m e in
    record { stays = refl; not_bare = ap (λ (b : Bool). if b then Some (ms, member.Sub s is None) else None) no; opens = refl }
procedure_begins line (item.Declares (header.Constructor ms ps is)) ss (item.End word.Sub) m e =
    let no = no_override (must_override ms) (ms, member.Constructor ps is (Some ss)) m e in
    record { stays = refl; not_bare = ap (λ (b : Bool). if b then Some (ms, member.Constructor ps is None) else None) no; opens = refl }
procedure_begins line (item.Declares (header.Function ms k s t is)) ss (item.End word.Function) m e =
    let no = no_override (must_override ms) (ms, member.Function k s t is (Some ss)) m e in
    record { stays = refl; not_bare = ap (λ (b : Bool). if b then Some (ms, member.Function k s t is None) else None) no; opens = refl }
procedure_begins line x ss y m e = absurd cc

pub procedure_ends : (line : ℕ) (x : Item) (ss : List Statement) (y : Item) (m : List Modifier × MemberForm) → procedure x ss y ≡ Some m
    → (simple_form y ≡ None) × (opened line y ≡ None)
procedure_ends line (item.Declares (header.Sub ms s is)) ss (item.End w) m e = (refl, refl)
procedure_ends line (item.Declares (header.Constructor ms ps is)) ss (item.End w) m e = (refl, refl)
procedure_ends line (item.Declares (header.Function ms k s t is)) ss (item.End w) m e = (refl, refl)
procedure_ends line x ss y m e = absurd cc

-- PROPERTIES

pub popped_append : {A : Type 0} (vs : List A) (x : A) → popped (vs ++ x ∷ []) ≡ Some (vs, x)
popped_append [] x = refl
popped_append (v ∷ vs) x = ap (popped_behind v) (popped_append vs x)

abbrev pub parts : ℕ → List Modifier → PropertyHeader → Option GetAccessor → Option SetAccessor → PropertyParts
parts line ms h g s = record { line = line; modifiers = ms; header = h; get = g; set = s }

module _ (line : ℕ) (modifiers : List Modifier) (h : PropertyHeader) (t : TypeHeader) (ms : List Member) (below : List Frame) where
  -- the property as its header alone says it
  abbrev alone : Member
  alone = member_of line (modifiers, member.Property h None)

  reopens : must_override modifiers ≡ false → (n : ℕ) (x : Item) → goes_on_property (Some x) ≡ true
      → step (frame.Members t (ms ++ alone ∷ [])) below (whole n x) ≡ step (frame.Property (parts line modifiers h None None)) (frame.Members t ms ∷ below) (whole n x)
  reopens free n x goes =
      ap (λ (v : Bool). reopened_step n x joint.End (if v then reopened_last t below (popped (ms ++ alone ∷ [])) else Some (frame.Members t (ms ++ alone ∷ []), below))) goes
      ∙ ap (λ (v : Option (List Member × Member)). reopened_step n x joint.End (reopened_last t below v)) (popped_append ms alone)
      ∙ ap (λ (v : Bool). reopened_step n x joint.End (reopened_as t ms below (if v then None else Some (parts line modifiers h None None)))) free

  -- rows of which the first goes on with the property
  leads_again : {g : Frame} {gs : List Frame} {rows : List Row} → must_override modifiers ≡ false → (n : ℕ) (x : Item) → goes_on_property (Some x) ≡ true
      → Leads (frame.Property (parts line modifiers h None None)) (frame.Members t ms ∷ below) (whole n x ∷ rows) g gs
      → Leads (frame.Members t (ms ++ alone ∷ [])) below (whole n x ∷ rows) g gs
  leads_again free n x goes (on e a) = on (reopens free n x goes ∙ e) a

get_leads : {rows : List Row} {g : GetAccessor} → IsGet rows (Some g) → (line : ℕ) (ms : List Modifier) (h : PropertyHeader) (below : List Frame)
    → Leads (frame.Property (parts line ms h None None)) below rows (frame.Property (parts line ms h (Some g) None)) below
get_leads (some {line = n} last {access = a} ds) line ms h below =
    on refl (and_on (statements_lead ds (scope.Accessor (accessor_header.Get n a)) [] (frame.Property (parts line ms h None None) ∷ below) refl) (on refl here))

set_leads : {rows : List Row} {s : SetAccessor} → IsSet rows (Some s) → (line : ℕ) (ms : List Modifier) (h : PropertyHeader) (g : Option GetAccessor) (below : List Frame)
    → Leads (frame.Property (parts line ms h g None)) below rows (frame.Property (parts line ms h g (Some s))) below
set_leads (some {line = n} last {access = a} {parameters = ps} ds) line ms h g below =
    on refl (and_on (statements_lead ds (scope.Accessor (accessor_header.Set n a ps)) [] (frame.Property (parts line ms h g None) ∷ below) refl) (on refl here))

sets_lead : {rows : List Row} {s : Option SetAccessor} → IsSet rows s → (line : ℕ) (ms : List Modifier) (h : PropertyHeader) (g : Option GetAccessor) (below : List Frame)
    → Leads (frame.Property (parts line ms h g None)) below rows (frame.Property (parts line ms h g s)) below
sets_lead none line ms h g below = here
sets_lead (some {line = n} last {access = a} {parameters = ps} {rows = rs} {body = b} ds) line ms h g below = set_leads (some {line = n} last {access = a} {parameters = ps} {rows = rs} {body = b} ds) line ms h g below

-- a property's accessors and its end, behind its header
accessors_lead : {gets sets : List Row} {g : Option GetAccessor} {s : Option SetAccessor} → IsGet gets g → IsSet sets s
    → (line last : ℕ) (modifiers : List Modifier) (h : PropertyHeader) (t : TypeHeader) (ms : List Member) (below : List Frame) → must_override modifiers ≡ false
    → Leads (frame.Members t (ms ++ alone line modifiers h t ms below ∷ [])) below (gets ++ (sets ++ whole last (item.End word.Property) ∷ []))
    (frame.Members t (ms ++ property_of (parts line modifiers h g s) ∷ [])) below
accessors_lead none none line last modifiers h t ms below free = leads_again line modifiers h t ms below free last (item.End word.Property) refl (on refl here)
accessors_lead none (some {line = n} end {access = a} {parameters = ps} {rows = rs} {body = b} ds) line last modifiers h t ms below free =
    leads_again line modifiers h t ms below free n (item.Declares (header.Set a ps)) refl
    (and_on (set_leads (some {line = n} end {access = a} {parameters = ps} {rows = rs} {body = b} ds) line modifiers h None (frame.Members t ms ∷ below)) (on refl here))
accessors_lead (some {line = n} end {access = a} {rows = rs} {body = b} ds) set line last modifiers h t ms below free =
    leads_again line modifiers h t ms below free n (item.Declares (header.Get a)) refl
    (and_on (get_leads (some {line = n} end {access = a} {rows = rs} {body = b} ds) line modifiers h (frame.Members t ms ∷ below))
    (and_on (sets_lead set line modifiers h (Some (record { line = n; access = a; body = b })) (frame.Members t ms ∷ below)) (on refl here)))

-- EVENTS

accessor_opens : (e : EventParts) (below : List Frame) (n : ℕ) (k : EventAccessorKind) (ps : List Parameter) → takes_accessor k e ≡ true
    → step (frame.Event e) below (whole n (item.Declares (header.EventAccessor k ps))) ≡ Some (body (scope.Accessor (accessor_header.Event n k ps)), frame.Event e ∷ below)
accessor_opens e below n k ps free =
    ap (λ (b : Bool). turned (if b then Some (turn.Opens (frame.Event e) (body (scope.Accessor (accessor_header.Event n k ps)))) else None) below) free

accessor_put : (e : EventParts) (below : List Frame) (k : EventAccessorKind) (a : EventAccessor) → takes_accessor k e ≡ true
    → put_below (is.Event k a) (frame.Event e ∷ below) ≡ Some (frame.Event (with_accessor e k a), below)
accessor_put e below k a free = ap (λ (b : Bool). placed (if b then Some (frame.Event (with_accessor e k a)) else None) below) free

accessor_leads : {k : EventAccessorKind} {rows : List Row} {a : EventAccessor} → IsEventAccessor k rows a → (e : EventParts) (below : List Frame) → takes_accessor k e ≡ true
    → Leads (frame.Event e) below rows (frame.Event (with_accessor e k a)) below
accessor_leads (accessor_block {line = n} last {k = accessor.AddHandler} {parameters = ps} {body = b} ds) e below free =
    on (accessor_opens e below n accessor.AddHandler ps free)
    (and_on (statements_lead ds (scope.Accessor (accessor_header.Event n accessor.AddHandler ps)) [] (frame.Event e ∷ below) refl)
    (on (accessor_put e below accessor.AddHandler (record { line = n; parameters = ps; body = b }) free) here))
accessor_leads (accessor_block {line = n} last {k = accessor.RemoveHandler} {parameters = ps} {body = b} ds) e below free =
    on (accessor_opens e below n accessor.RemoveHandler ps free)
    (and_on (statements_lead ds (scope.Accessor (accessor_header.Event n accessor.RemoveHandler ps)) [] (frame.Event e ∷ below) refl)
    (on (accessor_put e below accessor.RemoveHandler (record { line = n; parameters = ps; body = b }) free) here))
accessor_leads (accessor_block {line = n} last {k = accessor.RaiseEvent} {parameters = ps} {body = b} ds) e below free =
    on (accessor_opens e below n accessor.RaiseEvent ps free)
    (and_on (statements_lead ds (scope.Accessor (accessor_header.Event n accessor.RaiseEvent ps)) [] (frame.Event e ∷ below) refl)
    (on (accessor_put e below accessor.RaiseEvent (record { line = n; parameters = ps; body = b }) free) here))

abbrev pub event_parts : ℕ → List Modifier → Name → TypeName → Option EventAccessor → Option EventAccessor → Option EventAccessor → EventParts
event_parts line ms n t a b c = record { line = line; modifiers = ms; name = n; delegate = t; add_handler = a; remove_handler = b; raise_event = c }

event_leads : {rows : List Row} {a b c : Option EventAccessor} → AreEventAccessors rows a b c → (line : ℕ) (ms : List Modifier) (n : Name) (t : TypeName) (below : List Frame)
    → Leads (frame.Event (event_parts line ms n t None None None)) below rows (frame.Event (event_parts line ms n t a b c)) below
event_leads nothing line ms n t below = here
event_leads (add {remove = r} {raise = q} others d) line ms n t below = and_on (event_leads others line ms n t below) (accessor_leads d (event_parts line ms n t None r q) below refl)
event_leads (remove {add = r} {raise = q} others d) line ms n t below = and_on (event_leads others line ms n t below) (accessor_leads d (event_parts line ms n t r None q) below refl)
event_leads (raise {add = r} {remove = q} others d) line ms n t below = and_on (event_leads others line ms n t below) (accessor_leads d (event_parts line ms n t r q None) below refl)

-- ALL MEMBERS

pub member_leads : {rows : List Row} {m : Member} → IsMember rows m → (t : TypeHeader) (ms : List Member) (below : List Frame)
    → Leads (frame.Members t ms) below rows (frame.Members t (ms ++ m ∷ [])) below
member_leads (bare {line = line} {x = x} {m = m} e) t ms below =
    on (step_member t ms below line x (Some m) (member_opened line x) (bare_stays x m e) e refl) here
member_leads (block {line = line} {x = x} last y {body = b} {m = m} ds e) t ms below =
    let begins = procedure_begins line x b y m e in
    let ends = procedure_ends last x b y m e in
    on (step_member t ms below line x None (Some (body (scope.Procedure line x))) begins.stays begins.not_bare begins.opens)
    (and_on (statements_lead ds (scope.Procedure line x) [] (frame.Members t ms ∷ below) refl)
    (on (step_turns (scope.Procedure line x) b (frame.Members t ms ∷ below) last y refl ends.0 ends.1
    ∙ ap (λ (o : Option (List Modifier × MemberForm)). turned (procedure_whole line o) (frame.Members t ms ∷ below)) e) here))
member_leads (property {line = line} last {ms = modifiers} {h = h} free g s) t ms below =
    on refl (accessors_lead g s line last modifiers h t ms below free)
member_leads (custom_event {line = line} last {ms = modifiers} {n = n} {t = d} others) t ms below =
    on refl (and_on (event_leads others line modifiers n d (frame.Members t ms ∷ below)) (on refl here))

more_members : {f : Frame} {fs : List Frame} {rows : List Row} (t : TypeHeader) (below : List Frame) (ms others : List Member) (m : Member)
    → Leads f fs rows (frame.Members t ((ms ++ m ∷ []) ++ others)) below → Leads f fs rows (frame.Members t (ms ++ m ∷ others)) below
more_members t below ms others m a = leads_to a (ap (λ (ys : List Member). (frame.Members t ys, below)) (append_assoc ms (m ∷ []) others))

pub members_lead : {rows : List Row} {others : List Member} → AreMembers rows others → (t : TypeHeader) (ms : List Member) (below : List Frame)
    → Leads (frame.Members t ms) below rows (frame.Members t (ms ++ others)) below
members_lead nothing t ms below = leads_to here (ap (λ (ys : List Member). (frame.Members t ys, below)) (sym (append-nil ms)))
members_lead (more {m = m} {ms = others} d ds) t ms below =
    more_members t below ms others m (and_on (member_leads d t ms below) (members_lead ds t (ms ++ m ∷ []) below))
