-- The blocks that the code keeps are those that are open behind the items.
use Rattle.std.proofs.Common.{◌≡◌, ℕ, suc, ◌<◌, ◌≤◌, Bool, true, false, ◌&&◌, if◌then◌else◌, List, [], ◌∷◌, ◌++◌, Option, Some, None, length, reverse, slice_index_or, refl, sym, ap, ◌∙◌, arith}
use Rattle.std.proofs.lemmas.List.{reverse-append, length-reverse, get_or_append_left}
use Rattle.std.proofs.Math.Seq.{get_or-append_seam}
use Rattle.vb_syntax.specs.declared.item.{Item.Item}
use Rattle.vb_syntax.specs.declared.item.DeclarationLine.TheVariants as line
use Rattle.vb_syntax.specs.declared.item.Item.TheVariants as item
use Rattle.vb_ends.specs.{declared.role.{Sort.Sort, Role.Role}, Counts.{same_sort, holds}, Enders.{Block, block, is_statement, AreNested}, OpenBlocks.{around, or_all, open_behind, open_blocks, innermost_is, in_interface}, Roles.{goes_on_property, has_no_block, opens_or_ends, item_role, is_fresh, marks_of}}
use Rattle.vb_ends.specs.declared.role.Sort.TheVariants as sort
use Rattle.vb_ends.specs.declared.role.Role.TheVariants as role
use Rattle.vb_ends.proofs.OpenBlocks.{are_open}
use Rattle.vb_rows.specs.{declared.{stack.OpenBlock.OpenBlock, open_blocks.OpenBlocks.OpenBlocks}, Rows.{all_alone, blocks_behind, is_iterator, is_in_iterator}, Stacks.{sorts_of, innermost_iterator, innermost_of, opened, ended_statement, passed, ended_other, stepped}, Tracking.{kept_of, is_opener, waits, waits_behind, settled, Tracks}}

-- AN ITEM MORE

item_stays : (x : Option Item) (before : List (Option Item)) (place : ℕ) → place < length before → slice_index_or (reverse (x ∷ before)) place None ≡ slice_index_or (reverse before) place None
item_stays x before place h =
    ap (λ ys. slice_index_or ys place None) (reverse-append (x ∷ []) before)
    ∙ get_or_append_left (reverse before) (x ∷ []) None place (omega (arith, h, length-reverse before))

item_here : (x : Option Item) (before : List (Option Item)) → slice_index_or (reverse (x ∷ before)) (length before) None ≡ x
item_here x before =
    ap (λ ys. slice_index_or ys (length before) None) (reverse-append (x ∷ []) before)
    ∙ ap (λ n. slice_index_or (reverse before ++ x ∷ []) n None) (sym (length-reverse before)) ∙ get_or-append_seam (reverse before) x [] None

inner_more : (x : Option Item) (before : List (Option Item)) (bs : List Block) (n : ℕ) → AreNested bs n → n ≤ length before → is_in_iterator (x ∷ before) bs ≡ is_in_iterator before bs
inner_more x before [] n nested within = refl
inner_more x before (b ∷ bs) n nested within =
    ap (λ v. if is_statement b.sort then v else is_iterator (slice_index_or (reverse (x ∷ before)) b.place None)) (inner_more x before bs b.place nested.1 (omega (arith, nested.0)))
    ∙ ap (λ i. if is_statement b.sort then is_in_iterator before bs else is_iterator i) (item_stays x before b.place (omega (arith, nested.0)))

kept_more : (x : Option Item) (before : List (Option Item)) (bs : List Block) (n : ℕ) → AreNested bs n → n ≤ length before → kept_of (x ∷ before) bs ≡ kept_of before bs
kept_more x before [] n nested within = refl
kept_more x before (b ∷ bs) n nested within =
    let make : Bool → List OpenBlock → List OpenBlock = λ v os. record { sort = b.sort; in_iterator = v } ∷ os in
    ap (λ v. make v (kept_of (x ∷ before) bs)) (inner_more x before (b ∷ bs) n nested within)
    ∙ ap (λ os. make (is_in_iterator before (b ∷ bs)) os) (kept_more x before bs b.place nested.1 (omega (arith, nested.0)))

-- AN ENDER

statement_by : (same is : Bool) (s : Sort) (before : List (Option Item)) (b : Block) (bs : List Block) → is ≡ true
    → (if same then kept_of before bs else kept_of before (b ∷ bs)) ≡ kept_of before (or_all (if same then Some bs else if is then None else around s bs) (b ∷ bs))
statement_by true is s before b bs h = refl
statement_by false true s before b bs h = refl
statement_by false false s before b bs h = absurd cc

statement_ends : (s : Sort) (before : List (Option Item)) (bs : List Block) → is_statement s ≡ true → ended_statement s (kept_of before bs) ≡ kept_of before (or_all (around s bs) bs)
unfolding ended_statement
statement_ends s before [] is = refl
statement_ends s before (b ∷ bs) is = statement_by (same_sort b.sort s) (is_statement s) s before b bs is

other_by : (same is : Bool) (s : Sort) (before : List (Option Item)) (bs all : List Block) → is ≡ false
    → (if holds s (sorts_of (kept_of before bs)) then passed s (kept_of before bs) else kept_of before all) ≡ kept_of before (or_all (around s bs) all)
    → (if (if same then true else holds s (sorts_of (kept_of before bs))) then (if same then kept_of before bs else passed s (kept_of before bs)) else kept_of before all)
    ≡ kept_of before (or_all (if same then Some bs else if is then None else around s bs) all)
other_by true is s before bs all h again = refl
other_by false true s before bs all h again = absurd cc
other_by false false s before bs all h again = again

other_passes : (s : Sort) (before : List (Option Item)) (bs all : List Block) → is_statement s ≡ false
    → (if holds s (sorts_of (kept_of before bs)) then passed s (kept_of before bs) else kept_of before all) ≡ kept_of before (or_all (around s bs) all)
unfolding holds passed
other_passes s before [] all is = refl
other_passes s before (b ∷ bs) all is = other_by (same_sort b.sort s) (is_statement s) s before bs all is (other_passes s before bs all is)

other_ends : (s : Sort) (before : List (Option Item)) (bs : List Block) → is_statement s ≡ false → ended_other s (kept_of before bs) ≡ kept_of before (or_all (around s bs) bs)
unfolding ended_other
other_ends s before bs is = other_passes s before bs bs is

ends_by : (is : Bool) (s : Sort) (before : List (Option Item)) (bs : List Block) → is_statement s ≡ is
    → (if is then ended_statement s (kept_of before bs) else ended_other s (kept_of before bs)) ≡ kept_of before (or_all (around s bs) bs)
ends_by true s before bs is = statement_ends s before bs is
ends_by false s before bs is = other_ends s before bs is

-- A STEP

innermost_kept : (before : List (Option Item)) (bs : List Block) → innermost_iterator (kept_of before bs) ≡ is_in_iterator before bs
innermost_kept before [] = refl
innermost_kept before (b ∷ bs) = refl

opened_kept : (s : Sort) (x : Option Item) (before : List (Option Item)) (bs : List Block) (n : ℕ) → n ≡ length before → AreNested bs n
    → opened s (is_iterator x) (kept_of before bs) ≡ kept_of (x ∷ before) (block n s 0 ∷ bs)
opened_kept s x before bs n count nested =
    let make : Bool → List OpenBlock → List OpenBlock = λ v os. record { sort = s; in_iterator = v } ∷ os in
    let inner : innermost_iterator (kept_of before bs) ≡ is_in_iterator (x ∷ before) bs = innermost_kept before bs ∙ sym (inner_more x before bs n nested (omega (arith, count))) in
    let here : is_iterator x ≡ is_iterator (slice_index_or (reverse (x ∷ before)) n None) = ap is_iterator (sym (ap (λ m. slice_index_or (reverse (x ∷ before)) m None) count ∙ item_here x before)) in
    ap (λ v. make (if is_statement s then v else is_iterator x) (kept_of before bs)) inner
    ∙ ap (λ v. make (if is_statement s then is_in_iterator (x ∷ before) bs else v) (kept_of before bs)) here
    ∙ ap (λ os. make (if is_statement s then is_in_iterator (x ∷ before) bs else is_iterator (slice_index_or (reverse (x ∷ before)) n None)) os) (sym (kept_more x before bs n nested (omega (arith, count))))

step_kept : (k : Role) (x : Option Item) (before : List (Option Item)) (bs : List Block) (n : ℕ) → n ≡ length before → AreNested bs n
    → stepped k (is_iterator x) (kept_of before bs) ≡ kept_of (x ∷ before) (open_behind k n 0 bs)
unfolding stepped
step_kept (role.Opens s) x before bs n count nested = opened_kept s x before bs n count nested
step_kept (role.Ends s) x before bs n count nested =
    ap (λ os. if is_statement s then ended_statement s os else ended_other s os) (sym (kept_more x before bs n nested (omega (arith, count)))) ∙ ends_by (is_statement s) s (x ∷ before) bs refl
step_kept role.Stays x before bs n count nested = sym (kept_more x before bs n nested (omega (arith, count)))

-- MARKS

fresh : (before : List (Option Item)) → is_fresh (all_alone before) ≡ true
fresh [] = refl
fresh (i ∷ before) = refl

marks_count : (next : Option Item) (before : List (Option Item)) → length (marks_of next (all_alone before)) ≡ length before
marks_count next [] = refl
marks_count next (i ∷ before) = ap suc (marks_count i before)

-- the blocks behind one item more
behind_more : (next x : Option Item) (before : List (Option Item)) → let marks = marks_of x (all_alone before) in
    open_blocks (marks_of next (all_alone (x ∷ before))) ≡ open_behind (item_role (in_interface marks) x next) (length marks) 0 (open_blocks marks)
behind_more next x before =
    let marks = marks_of x (all_alone before) in
    ap (λ b. open_behind (if b && true then item_role (in_interface marks) x next else role.Stays) (length marks) 0 (open_blocks marks)) (fresh before)

nested_behind : (x : Option Item) (before : List (Option Item)) → let marks = marks_of x (all_alone before) in AreNested (open_blocks marks) (length marks)
nested_behind x before = (are_open (marks_of x (all_alone before))).nested

-- A PROPERTY'S HEADER

property_by : (b g : Bool) → opens_or_ends (if b then None else if g then Some sort.Property else None) None
    ≡ (if is_opener (opens_or_ends (if b then None else if true then Some sort.Property else None) None) && g then role.Opens sort.Property else opens_or_ends (if b then None else if false then Some sort.Property else None) None)
property_by true true = refl
property_by true false = refl
property_by false true = refl
property_by false false = refl

-- an item does what it does where nothing stands behind it, but for such a header
role_by_next : (inside : Bool) (i next : Option Item) → item_role inside i next ≡ (if waits inside i && goes_on_property next then role.Opens sort.Property else item_role inside i None)
role_by_next inside (Some (item.Declares (line.Property ms h))) next = property_by (has_no_block inside ms (line.Property ms h)) (goes_on_property next)
role_by_next inside i next = refl

waiting_by : (b : Bool) → is_opener (opens_or_ends (if b then None else if true then Some sort.Property else None) None) ≡ true → opens_or_ends (if b then None else if false then Some sort.Property else None) None ≡ role.Stays
waiting_by true h = absurd cc
waiting_by false h = refl

waiting_stays : (inside : Bool) (i : Option Item) → waits inside i ≡ true → (item_role inside i None ≡ role.Stays) × (is_iterator i ≡ false)
waiting_stays inside (Some (item.Declares (line.Property ms h))) w = (waiting_by (has_no_block inside ms (line.Property ms h)) w, refl)
waiting_stays inside i w = absurd cc

next_by : (w g : Bool) (inside : Bool) (x : Option Item) (before : List (Option Item)) (bs : List Block) (n : ℕ) → waits inside x ≡ w → n ≡ length before → AreNested bs n
    → kept_of (x ∷ before) (open_behind (if w && g then role.Opens sort.Property else item_role inside x None) n 0 bs) ≡ settled (w && g) (kept_of (x ∷ before) (open_behind (item_role inside x None) n 0 bs))
next_by true true inside x before bs n w count nested =
    let stays = waiting_stays inside x w in
    sym (opened_kept sort.Property x before bs n count nested)
    ∙ ap (λ b. opened sort.Property b (kept_of before bs)) stays.1
    ∙ ap (λ os. opened sort.Property false os) (sym (kept_more x before bs n nested (omega (arith, count))))
    ∙ ap (λ k. opened sort.Property false (kept_of (x ∷ before) (open_behind k n 0 bs))) (sym stays.0)
next_by true false inside x before bs n w count nested = refl
next_by false g inside x before bs n w count nested = refl

pub next_settles : (next : Option Item) (before : List (Option Item))
    → kept_of before (open_blocks (marks_of next (all_alone before))) ≡ settled (waits_behind before && goes_on_property next) (kept_of before (blocks_behind before))
next_settles next [] = refl
next_settles next (x ∷ before) =
    let marks = marks_of x (all_alone before) in
    let inside = in_interface marks in
    ap (λ bs. kept_of (x ∷ before) bs) (behind_more next x before)
    ∙ ap (λ k. kept_of (x ∷ before) (open_behind k (length marks) 0 (open_blocks marks))) (role_by_next inside x next)
    ∙ next_by (waits inside x) (goes_on_property next) inside x before (open_blocks marks) (length marks) refl (marks_count x before) (nested_behind x before)
    ∙ ap (λ bs. settled (waits inside x && goes_on_property next) (kept_of (x ∷ before) bs)) (sym (behind_more None x before))

-- AN ITEM IS TAKEN

innermost_is_kept : (s : Sort) (before : List (Option Item)) (bs : List Block) → innermost_of s (kept_of before bs) ≡ innermost_is s bs
innermost_is_kept s before [] = refl
innermost_is_kept s before (b ∷ bs) = refl

pub nothing_read : (blocks : OpenBlocks) → blocks.stack ≡ [] → blocks.waits ≡ false → Tracks blocks []
nothing_read blocks none off = record { stack = ap reverse none; waits = off }

pub item_taken : (x : Option Item) (before : List (Option Item)) (old now : OpenBlocks) (middle : List OpenBlock) (inside iterates : Bool) (k : Role)
    → reverse middle ≡ settled (old.waits && goes_on_property x) (reverse old.stack) → inside ≡ innermost_of sort.Interface (reverse middle) → k ≡ item_role inside x None → iterates ≡ is_iterator x
    → reverse now.stack ≡ stepped k iterates (reverse middle) → now.waits ≡ waits inside x → Tracks old before → Tracks now (x ∷ before)
item_taken x before old now middle inside iterates k settles is_inside is_role is_iterator_ steps is_waiting t =
    let marks = marks_of x (all_alone before) in
    let here : reverse middle ≡ kept_of before (open_blocks marks) =
    settles ∙ ap (λ b. settled (b && goes_on_property x) (reverse old.stack)) t.waits ∙ ap (λ os. settled (waits_behind before && goes_on_property x) os) t.stack ∙ sym (next_settles x before) in
    let in_it : inside ≡ in_interface marks = is_inside ∙ ap (λ os. innermost_of sort.Interface os) here ∙ innermost_is_kept sort.Interface before (open_blocks marks) in
    let does : k ≡ item_role (in_interface marks) x None = is_role ∙ ap (λ b. item_role b x None) in_it in
    record {
      stack = steps ∙ ap (λ os. stepped k iterates os) here ∙ ap (λ b. stepped k b (kept_of before (open_blocks marks))) is_iterator_
          ∙ ap (λ d. stepped d (is_iterator x) (kept_of before (open_blocks marks))) does
          ∙ step_kept (item_role (in_interface marks) x None) x before (open_blocks marks) (length marks) (marks_count x before) (nested_behind x before)
          ∙ ap (λ bs. kept_of (x ∷ before) bs) (sym (behind_more None x before));
      waits = is_waiting ∙ ap (λ b. waits b x) in_it;
    }

pub iterator_told : (blocks : OpenBlocks) (before : List (Option Item)) (result : Bool) → result ≡ innermost_iterator (reverse blocks.stack) → Tracks blocks before → result ≡ is_in_iterator before (blocks_behind before)
iterator_told blocks before result e t = e ∙ ap innermost_iterator t.stack ∙ innermost_kept before (blocks_behind before)
