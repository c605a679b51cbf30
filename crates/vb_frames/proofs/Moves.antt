-- What each instruction has done is its step of the code.
use Rattle.std.proofs.Common.{◌≡◌, ℕ, suc, ◌+◌, ◌<◌, Bool, true, false, ◌&&◌, List, [], ◌∷◌, length, ℤ, Option, Some, None, refl, sym, ◌^◌, ap, ap₂, subst, ◌∙◌, arith}
use Rattle.std.specs.Prelude.{slice_get, if◌then◌else◌, bytes_eq, nat_eq, Err}
use Rattle.std.proofs.lemmas.Bool.Decides.{nat_tests}
use Rattle.vb_threads.specs.Machine.{Threw, Silent, Asks}
use Rattle.vb_num.specs.{declared.{kinds.Kind.Kind, num.Thrown.{Thrown, TheVariants.{Overflow, DivideByZero, Format}}}, Num.Answers}
use Rattle.vb_value.specs.{Datum.{Datum, Number, Letters, units_of}, Store.{New, Write, Reply}}
use Rattle.vb_code.specs.{declared.{code.Class.Class, instr.{Arithmetic.Arithmetic, Mark.Mark, Instr.{Instr, TheVariants.{Arith, Concat, Write as WriteInstr}}, Silent.{Silent as SilentCall, TheVariants.TextOf}}, local.{Position.{Position, TheVariants.{At as AtPlace, Writing, Throwing, Returned as HasReturned, Ended as HasEnded, Thrown as HasThrown}}, Local.Local}}, Code.{Code, text_at, class_from, class_named, class_name, class_units, name_in, inherits, throwable, overflow, out_of_memory}, Machine.{CodeThread, At, Gone, act, throws, throws_class, or_throws, arith_of, joined, commits}, Local.thread_at}
use Rattle.vb_frames.specs.{declared.turn.Did.Did, Frames.{AwaitsAt, asked_at, given_at}, Turn.{place_of, Needs, Stays, Stops, Obeys, Throws, HasTexts, HasText}}

-- the class of a name has that name
equal_of : (xs ys : List ℕ) → bytes_eq xs ys ≡ true → xs ≡ ys
equal_of [] [] e = refl
equal_of [] (y ∷ ys) e = absurd (cc)
equal_of (x ∷ xs) [] e = absurd (cc)
equal_of (x ∷ xs) (y ∷ ys) e = both (nat_eq x y) refl (equal_of xs ys) e
  where
    both : (b : Bool) → nat_eq x y ≡ b → (bytes_eq xs ys ≡ true → xs ≡ ys) → (b && bytes_eq xs ys) ≡ true → x ∷ xs ≡ y ∷ ys
    both true b rest e = let same : x ≡ y = grind (arith, nat_tests) in ap₂ (λ z zs. z ∷ zs) same (rest e)
    both false b rest e = absurd (cc)

named_from : (i : ℕ) (ks : List Class) (texts : List (List ℕ)) (name : List ℕ) (k : ℕ) → class_from i ks texts name ≡ Some k → (j : ℕ) × (k ≡ i + j) × (name_in texts (slice_get ks j) ≡ name)
named_from i [] texts name k e = absurd (cc)
named_from i (x ∷ ks) texts name k e = pick (bytes_eq (text_at texts x.name) name) refl (named_from (i + 1) ks texts name k) e
  where
    pick : (b : Bool) → bytes_eq (text_at texts x.name) name ≡ b → (class_from (i + 1) ks texts name ≡ Some k → (j : ℕ) × (k ≡ i + 1 + j) × (name_in texts (slice_get ks j) ≡ name)) → (if b then Some i else class_from (i + 1) ks texts name) ≡ Some k → (j : ℕ) × (k ≡ i + j) × (name_in texts (slice_get (x ∷ ks) j) ≡ name)
    pick true b rest e = let same : i ≡ k = cc in (0, omega (arith, same), equal_of (text_at texts x.name) name b)
    pick false b rest e = let r = rest e in (suc r.0, omega (arith, r.1), r.2)

pub throwable_name : (c : Code) (name : List ℕ) (k : ℕ) → throwable c name ≡ Some k → class_name c k ≡ name
throwable_name c name k e =
    let r = named_from 0 c.classes c.texts name k (pick (inherits c (length c.classes) (class_named c name)) e) in
    let same : k ≡ r.0 = omega (arith, r.1) in
    ap (λ n. name_in c.texts (slice_get c.classes n)) same ∙ r.2
  where
    pick : (b : Bool) → (if b then class_named c name else None) ≡ Some k → class_named c name ≡ Some k
    pick true e = e
    pick false e = absurd (cc)

-- a thread at a place
pub thread_here : (c : Code) (q : Position) (place : ℕ) (ops slots : List Datum) → place_of q ≡ Some place → thread_at c q ops slots ≡ At place ops slots
thread_here c (AtPlace p) place ops slots e = let same : p ≡ place = cc in ap (λ n. At n ops slots) same
thread_here c (Writing p) place ops slots e = let same : p ≡ place = cc in ap (λ n. At n ops slots) same
thread_here c (Throwing p k) place ops slots e = let same : p ≡ place = cc in ap (λ n. At n ops slots) same
thread_here c HasReturned place ops slots e = absurd (cc)
thread_here c HasEnded place ops slots e = absurd (cc)
thread_here c (HasThrown k) place ops slots e = absurd (cc)

module _ (c : Code) (i : Instr) (place : ℕ) (old new : Local) where
  -- the thread asks for the object that it throws
  pub thrown : (name : List ℕ) → ((b : ℕ) → act c i b place old.operands old.slots ≡ throws c name) → Throws c name place old new → Stops c i place old new true
  thrown name h t = record {
    stays = t.stays;
    here = ap place_of t.here;
    awaits = subst (λ q. AwaitsAt q new.operands) (sym t.here) tt;
    commits = λ r. true;
    asks = λ b. h b
        ∙ ap (λ o. throws_class c name o) t.is
        ∙ ap (λ n. Asks (New n (class_units c t.class)) (λ (r : Reply). true) (λ (r : Reply). Gone (Threw n))) (sym (throwable_name c name t.class t.is))
        ∙ ap (λ q. Asks (asked_at c q new.operands) (λ (r : Reply). true) (λ (r : Reply). given_at c q new.operands new.slots)) (sym t.here);
    marked = λ r. refl;
  }

-- what stands at a depth is one value
found : (ops : List Datum) (n : ℕ) (d e : Datum) → slice_get ops n ≡ Some d → slice_get ops n ≡ Some e → d ≡ e
found ops n d e a b = let both : Some d ≡ Some e = sym a ∙ b in cc

-- the numbers that are read are those on top
record Read (k : Kind) (x y : ℤ) (lk rk : Kind) (l r : ℤ) : Type 0 where
  right_kind : rk ≡ k
  left_kind : lk ≡ k
  right : r ≡ y
  left : l ≡ x

read_two : (ops : List Datum) (k : Kind) (x y : ℤ) (rest : List Datum) (lk rk : Kind) (l r : ℤ) → ops ≡ Number k y ∷ Number k x ∷ rest → slice_get ops 0 ≡ Some (Number rk r) → slice_get ops 1 ≡ Some (Number lk l) → Read k x y lk rk l r
read_two ops k x y rest lk rk l r e a b =
    let first : Number rk r ≡ Number k y = found ops 0 (Number rk r) (Number k y) a (ap (λ o. slice_get o 0) e) in
    let second : Number lk l ≡ Number k x = found ops 1 (Number lk l) (Number k x) b (ap (λ o. slice_get o 1) e) in
    let rks : rk ≡ k = cc in
    let lks : lk ≡ k = cc in
    let rs : r ≡ y = cc in
    let ls : l ≡ x = cc in
    record { right_kind = rks; left_kind = lks; right = rs; left = ls }

pub none_of : (k : Kind) (want : Option ℤ) (e : Thrown) → Answers k want (Err e) → want ≡ None
none_of k want Overflow h = h
none_of k want DivideByZero h = absurd h
none_of k want Format h = absurd h

module _ (c : Code) (o : Arithmetic) (k : Kind) (place : ℕ) (old new : Local) (needs : Needs c (Arith o k) old.operands old.slots) (lk rk : Kind) (l r : ℤ) (a : slice_get old.operands 0 ≡ Some (Number rk r)) (b : slice_get old.operands 1 ≡ Some (Number lk l)) where
  came_to : (bs : ℕ) → act c (Arith o k) bs place old.operands old.slots ≡ or_throws c overflow (arith_of o lk l r) (λ v. Silent bs (At (place + 1) (Number k v ∷ needs.0.2) old.slots))
  came_to bs =
      let h = needs.0 in
      let s = read_two old.operands k h.0 h.1 h.2 lk rk l r h.3 a b in
      ap (λ ops. act c (Arith o k) bs place ops old.slots) h.3
      ∙ sym (ap (λ q. or_throws c overflow (arith_of o q l r) (λ v. Silent bs (At (place + 1) (Number k v ∷ h.2) old.slots))) s.left_kind
      ∙ ap (λ q. or_throws c overflow (arith_of o k q r) (λ v. Silent bs (At (place + 1) (Number k v ∷ h.2) old.slots))) s.left
      ∙ ap (λ q. or_throws c overflow (arith_of o k h.0 q) (λ v. Silent bs (At (place + 1) (Number k v ∷ h.2) old.slots))) s.right)

  pub arith_thrown : arith_of o lk l r ≡ None → Throws c overflow place old new → Stops c (Arith o k) place old new true
  arith_thrown none t = thrown c (Arith o k) place old new overflow (λ bs. came_to bs ∙ ap (λ v. or_throws c overflow v (λ v. Silent bs (At (place + 1) (Number k v ∷ needs.0.2) old.slots))) none) t

  pub arith_went : (v : ℤ) → arith_of o lk l r ≡ Some v → (bs : ℕ) → (state : CodeThread) × (act c (Arith o k) bs place old.operands old.slots ≡ Silent bs state)
  arith_went v some bs = (At (place + 1) (Number k v ∷ needs.0.2) old.slots, came_to bs ∙ ap (λ v. or_throws c overflow v (λ v. Silent bs (At (place + 1) (Number k v ∷ needs.0.2) old.slots))) some)

-- the texts that are read are those on top
module _ (c : Code) (place : ℕ) (old new : Local) (has : HasTexts old.operands) (s t : Option (List ℕ)) (a : slice_get old.operands 0 ≡ Some (Letters t)) (b : slice_get old.operands 1 ≡ Some (Letters s)) where
  second_is : s ≡ has.0
  second_is = let same : Letters s ≡ Letters has.0 = found old.operands 1 (Letters s) (Letters has.0) b (ap (λ o. slice_get o 1) has.3) in cc

  first_is : t ≡ has.1
  first_is = let same : Letters t ≡ Letters has.1 = found old.operands 0 (Letters t) (Letters has.1) a (ap (λ o. slice_get o 0) has.3) in cc

  came_joined : (bs : ℕ) → act c Concat bs place old.operands old.slots ≡ or_throws c out_of_memory (joined (units_of s) (units_of t)) (λ v. Silent bs (At (place + 1) (Letters (Some v) ∷ has.2) old.slots))
  came_joined bs =
      ap (λ z. act c Concat bs place z old.slots) has.3
      ∙ sym (ap₂ (λ x y. or_throws c out_of_memory (joined (units_of x) (units_of y)) (λ v. Silent bs (At (place + 1) (Letters (Some v) ∷ has.2) old.slots))) second_is first_is)

  pub concat_thrown : joined (units_of s) (units_of t) ≡ None → Throws c out_of_memory place old new → Stops c Concat place old new true
  concat_thrown none h = thrown c Concat place old new out_of_memory (λ bs. came_joined bs ∙ ap (λ v. or_throws c out_of_memory v (λ v. Silent bs (At (place + 1) (Letters (Some v) ∷ has.2) old.slots))) none) h

  pub concat_went : (v : List ℕ) → joined (units_of s) (units_of t) ≡ Some v → (bs : ℕ) → (state : CodeThread) × (act c Concat bs place old.operands old.slots ≡ Silent bs state)
  concat_went v some bs = (At (place + 1) (Letters (Some v) ∷ has.2) old.slots, came_joined bs ∙ ap (λ v. or_throws c out_of_memory v (λ v. Silent bs (At (place + 1) (Letters (Some v) ∷ has.2) old.slots))) some)

-- a Write stands where it has asked
pub writes : (c : Code) (mark : Mark) (place : ℕ) (old new : Local) (committed : Bool) → HasText old.operands → place + 1 < 2 ^ 64 → ((r : Reply) → commits mark r ≡ committed) → new.position ≡ Writing place → Stays old new → Stops c (WriteInstr mark) place old new committed
writes c mark place old new committed has next marks at stays =
    let ops : new.operands ≡ Letters has.0 ∷ has.1 = stays.operands ∙ has.2 in
    record {
      stays = stays;
      here = ap place_of at;
      awaits = subst (λ q. AwaitsAt q new.operands) (sym at) (next, has.0, has.1, ops);
      commits = commits mark;
      asks = λ b. ap (λ z. act c (WriteInstr mark) b place z old.slots) has.2
          ∙ sym (ap (λ q. Asks (asked_at c q new.operands) (commits mark) (λ (r : Reply). given_at c q new.operands new.slots)) at
          ∙ ap (λ z. Asks (asked_at c (Writing place) z) (commits mark) (λ (r : Reply). given_at c (Writing place) z new.slots)) ops
          ∙ ap (λ z. Asks (Write (units_of has.0)) (commits mark) (λ (r : Reply). At (place + 1) has.1 z)) stays.slots);
      marked = marks;
    }

-- the same of an instruction that is known
pub obeys_as : (c : Code) (i j : Instr) (place : ℕ) (old new : Local) (did : Did) → i ≡ j → Obeys c j place old new did → Obeys c i place old new did
obeys_as c i j place old new did e h = subst (λ k. Obeys c k place old new did) (sym e) h

pub needs_as : (c : Code) (i j : Instr) (ops slots : List Datum) → i ≡ j → Needs c i ops slots → Needs c j ops slots
needs_as c i j ops slots e h = subst (λ k. Needs c k ops slots) e h

pub only_text_of : (s : SilentCall) → s ≡ TextOf
only_text_of TextOf = refl
