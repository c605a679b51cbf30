-- A thread that goes on with another asks what the other asks, and its steps are paid for by the statements that it begins.
use Rattle.std.proofs.Common.{◌≡◌, ℕ, zero, suc, ◌+◌, ◌*◌, ◌≤◌, Bool, true, false, List, refl, sym, ◌∙◌, ap, subst, arith}
use Rattle.vb_threads.specs.{Machine.{Over, Next, Silent, Asks, Rests, Machine, state_of, begins_of, quiet, begun, IsSettled}, World.{World, Entry, Run, opening}, Same.{AsksAlike, RestsAlike, Same, Equal, EqualFor}, Stands.StandsFor, Work.IsWithin, Steps.{Passes, GoesWith, meets, silent, asks, rests, BySteps, RunsAlone}}
use Rattle.vb_threads.proofs.{Stepwise.{quiet-add, begun-add, OneStep, settled_ask, settled_rest, same_by_steps}, Law.lifted, Work.bounded}

module _ {S A R : Type 0} {next : S → Next S A R} where
  -- no step
  pub stays : {u : S} → Passes next 0 u u
  stays = record { steps = 0; counts = refl; arrives = refl }

  -- one step
  pub passes : {b : ℕ} {u u' : S} → next u ≡ Silent b u' → Passes next b u u'
  passes {b} {u} {u'} e =
      let count : begins_of (next u) ≡ b = ap begins_of e in
      record { steps = 1; counts = omega arith; arrives = ap (state_of u) e }

  -- first steps that begin nothing
  pub onward : {b : ℕ} {u v w : S} → Passes next 0 u v → Passes next b v w → Passes next b u w
  onward {b} {u} {v} {w} x y =
      let count = begun-add next x.steps y.steps u in
      let later : begun next y.steps (quiet next x.steps u) ≡ b = subst (λ z. begun next y.steps z ≡ b) (sym x.arrives) y.counts in
      let earlier = x.counts in
      record { steps = x.steps + y.steps; counts = omega arith; arrives = quiet-add next x.steps y.steps u ∙ ap (quiet next y.steps) x.arrives ∙ y.arrives }

module _ {S A R S' A' R' : Type 0} {AsksMatch : A → A' → Type 0} {AnswersMatch : A → A' → R → R' → Type 0} {q : S → Next S A R} {p : S' → Next S' A' R'} {most : ℕ} {Related : ℕ → S → S' → Type 0} where
  -- they are related
  pub meet : {n : ℕ} {s : S} {u : S'} → Related n s u → GoesWith AsksMatch AnswersMatch q p most Related false n s u
  meet r = meets stays r (omega arith)

  -- the first does a step alone
  pub alone : {due : Bool} {n : ℕ} {s s' : S} {u : S'} → q s ≡ Silent 0 s' → GoesWith AsksMatch AnswersMatch q p most Related false n s' u → GoesWith AsksMatch AnswersMatch q p most Related due (n + 1) s u
  alone e h = silent e stays h (omega arith)

  -- both do a step
  pub both : {due : Bool} {n m b : ℕ} {s s' : S} {u u' : S'} → q s ≡ Silent b s' → p u ≡ Silent b u' → GoesWith AsksMatch AnswersMatch q p most Related false m s' u' → m + 1 ≤ n + most * b → GoesWith AsksMatch AnswersMatch q p most Related due n s u
  both e f h le = silent e (passes f) h le

  -- the second does a step alone
  pub skip : {due : Bool} {n : ℕ} {s : S} {u u' : S'} → p u ≡ Silent 0 u' → GoesWith AsksMatch AnswersMatch q p most Related due n s u' → GoesWith AsksMatch AnswersMatch q p most Related due n s u
  skip e (meets g r le) = meets (onward (passes e) g) r le
  skip e (silent f g h le) = silent f (onward (passes e) g) h le
  skip e (asks f g f' match counts h le) = asks f (onward (passes e) g) f' match counts h le
  skip e (rests f g f') = rests f (onward (passes e) g) f'

  -- both rest
  pub end : {due : Bool} {s : S} {u : S'} {over : Over} → q s ≡ Rests over → p u ≡ Rests over → GoesWith AsksMatch AnswersMatch q p most Related due 0 s u
  end e f = rests e stays f

  -- a larger number
  pub more : {due : Bool} {n k : ℕ} {s : S} {u : S'} → n ≤ k → GoesWith AsksMatch AnswersMatch q p most Related due n s u → GoesWith AsksMatch AnswersMatch q p most Related due k s u
  more le (meets g r lt) = meets g r (omega arith)
  more le (silent e g h lt) = silent e g h (omega arith)
  more le (asks e g f match counts h lt) = asks e g f match counts h (omega arith)
  more le (rests e g f) = rests e g f

module _ {S A R S' : Type 0} {q : S → Next S A R} {p : S' → Next S' A R} {most : ℕ} {Related : ℕ → S → S' → Type 0} where
  -- both ask the same
  pub ask : {due : Bool} {n : ℕ} {s : S} {u : S'} {a : A} {commits : R → Bool} {go : R → S} {go' : R → S'} → q s ≡ Asks a commits go → p u ≡ Asks a commits go' → ((r : R) → GoesWith Equal EqualFor q p most Related false n (go r) (go' r)) → GoesWith Equal EqualFor q p most Related due (n + 1) s u
  ask {n = n} {commits = commits} {go = go} {go' = go'} e f h = asks {m = n} e stays f refl (λ r r' g. ap commits g) (λ r r' g. subst (λ z. GoesWith Equal EqualFor q p most Related false n (go r) (go' z)) g (h r)) (omega arith)

module _ {S A R S' A' R' : Type 0} (AsksMatch : A → A' → Type 0) (AnswersMatch : A → A' → R → R' → Type 0) (q : S → Next S A R) (p : S' → Next S' A' R') (most : ℕ) (Related : ℕ → S → S' → Type 0) where
  -- the threads go on, with no step due
  abbrev Goes : ℕ → S → S' → Type 0
  Goes = GoesWith AsksMatch AnswersMatch q p most Related false

  -- what the second thread does for this step of the first
  abbrev Step : ℕ → Next S A R → S' → Type 0
  Step n (Silent b s) u = (m : ℕ) × (v : S') × Passes p b u v × Goes m s v × (m + 1 ≤ n + most * b)
  Step n (Asks a commits go) u = (m : ℕ) × (v : S') × Passes p 0 u v × AsksAlike AsksMatch AnswersMatch (Goes m) a commits go (p v) × (m + 1 ≤ n)
  Step n (Rests over) u = (v : S') × Passes p 0 u v × RestsAlike over (p v)

  -- after silent steps of the second, and with a larger number
  behind : {n m : ℕ} {u v : S'} (x : Next S A R) → Passes p 0 u v → m ≤ n → Step m x v → Step n x u
  behind (Silent b s) g le z = let lt = z.4 in (z.0, z.1, onward g z.2, z.3, omega arith)
  behind (Asks a commits go) g le z = let lt = z.4 in (z.0, z.1, onward g z.2, z.3, omega arith)
  behind (Rests over) g le z = (z.0, onward g z.1, z.2)

  -- the first step, where one comes from related states too
  step_from : {due : Bool} {n : ℕ} {s : S} {u : S'} → GoesWith AsksMatch AnswersMatch q p most Related due n s u → (due ≡ false → (m : ℕ) (v : S') → Related m s v → Step m (q s) v) → Step n (q s) u
  step_from (meets {m = m} {s = s} {u' = v} g r le) there = behind (q s) g le (there refl m v r)
  step_from (silent {n = n} {m = m} {u = u} {u' = v} e g h le) there = subst (λ x. Step n x u) (sym e) (m, v, g, h, le)
  step_from (asks {n = n} {m = m} {u = u} {u' = v} {ask = a} {commits = c} {go = go} e g f match counts h le) there =
      subst (λ x. Step n x u) (sym e) (m, v, g, subst (AsksAlike AsksMatch AnswersMatch (Goes m) a c go) (sym f) (match, λ r r' z. (counts r r' z, h r r' z)), le)
  step_from (rests {n = n} {u = u} {u' = v} {over = over} e g f) there = subst (λ x. Step n x u) (sym e) (v, g, subst (RestsAlike over) (sym f) refl)

  -- silent steps of the second that begin nothing lead to a beginning, an ask or an end
  abbrev Settles : S' → Type 0
  Settles u = (v : S') × Passes p 0 u v × IsSettled (p v)

  -- the same, by what it does next
  settles_at : (j b : ℕ) (u : S') (x : Next S' A' R') → p u ≡ x → begins_of x + begun p j (state_of u x) ≡ suc b → ((v : S') → begun p j v ≡ suc b → Settles v) → Settles u
  settles_at j b u (Silent zero v) e count ih = let z = ih v (omega arith) in (z.0, onward (passes e) z.1, z.2)
  settles_at j b u (Silent (suc c) v) e count ih = (u, stays, subst IsSettled (sym e) tt)
  settles_at j b u (Asks a commits go) e count ih = (u, stays, subst IsSettled (sym e) tt)
  settles_at j b u (Rests over) e count ih = (u, stays, subst IsSettled (sym e) tt)

  -- a thread that is to begin a statement settles
  settles_first : (j b : ℕ) (u : S') → begun p j u ≡ suc b → Settles u
  settles_first zero b u count = absurd (omega arith)
  settles_first (suc j) b u count = settles_at j b u (p u) refl count (settles_first j b)

  module _ (steps : (n : ℕ) (s : S) (u : S') → Related n s u → GoesWith AsksMatch AnswersMatch q p most Related true n s u) where
    -- the first step
    step : {n : ℕ} {s : S} {u : S'} → Goes n s u → Step n (q s) u
    step {s = s} h = step_from h (λ is m v r. step_from (steps m s v r) (λ never. absurd (cc)))

    -- the second thread settles by the first one's step
    settles_by : (k n : ℕ) (x : Next S A R) (u : S') → n ≤ k → Step n x u → ((m : ℕ) (s : S) (v : S') → m + 1 ≤ k → Goes m s v → Settles v) → Settles u
    settles_by k n (Silent zero s) u le z ih = let lt = z.4 in let y = ih z.0 s z.1 (omega arith) z.3 in (y.0, onward z.2 y.1, y.2)
    settles_by k n (Silent (suc b) s) u le z ih = settles_first z.2.steps b u z.2.counts
    settles_by k n (Asks a commits go) u le z ih = (z.1, z.2, settled_ask AsksMatch AnswersMatch q p (Goes z.0) a commits go (p z.1) z.3)
    settles_by k n (Rests over) u le z ih = (z.0, z.1, settled_rest AsksMatch AnswersMatch q p (Goes n) over (p z.0) z.2)

    -- the second thread settles, since few steps of the first come before the next beginning or the end
    settles : (k n : ℕ) (s : S) (u : S') → n ≤ k → Goes n s u → Settles u
    settles zero n s u le h = settles_by zero n (q s) u le (step h) (λ m s v lt g. absurd (omega arith))
    settles (suc k) n s u le h = settles_by (suc k) n (q s) u le (step h) (λ m s v lt g. settles k m s v (omega arith) g)

    -- with some number
    abbrev Together : S → S' → Type 0
    Together s u = (n : ℕ) × Goes n s u

    asks_together : (m : ℕ) (a : A) (commits : R → Bool) (go : R → S) (y : Next S' A' R') → AsksAlike AsksMatch AnswersMatch (Goes m) a commits go y → AsksAlike AsksMatch AnswersMatch Together a commits go y
    asks_together m a commits go (Silent b u) h = h
    asks_together m a commits go (Asks a' commits' go') h = (h.0, λ r r' g. ((h.1 r r' g).0, (m, (h.1 r r' g).1)))
    asks_together m a commits go (Rests over) h = h

    one_step : (n : ℕ) (x : Next S A R) (u : S') → Step n x u → OneStep AsksMatch AnswersMatch q p Together x u
    one_step n (Silent b s) u z = (z.2.steps, z.2.counts, (z.0, subst (Goes z.0 s) (sym z.2.arrives) z.3))
    one_step n (Asks a commits go) u z = (z.2.steps, z.2.counts, subst (λ v. AsksAlike AsksMatch AnswersMatch Together a commits go (p v)) (sym z.2.arrives) (asks_together z.0 a commits go (p z.1) z.3))
    one_step n (Rests over) u z = (z.1.steps, z.1.counts, subst (λ v. RestsAlike over (p v)) (sym z.1.arrives) z.2)

    -- threads that go on together ask alike
    same : (n : ℕ) (s : S) (u : S') → Goes n s u → Same AsksMatch AnswersMatch q p s u
    same n s u h =
        same_by_steps AsksMatch AnswersMatch q p Together
        (λ s u h. let z = settles h.0 h.0 s u (omega arith) h.1 in (z.1.steps, z.1.counts, subst (λ v. IsSettled (p v)) (sym z.1.arrives) z.2))
        (λ s u h. one_step h.0 (q s) u (step h.1)) s u (n, h)

    -- whatever the first thread is answered, it goes on
    answers : (m : ℕ) (a : A) (commits : R → Bool) (go : R → S) (y : Next S' A' R') → AsksAlike AsksMatch AnswersMatch (Goes m) a commits go y → ((a' : A') → AsksMatch a a' → (r : R) → (r' : R') × AnswersMatch a a' r r') → (r : R) → (u : S') × Goes m (go r) u
    answers m a commits go (Silent b u) h answered r = absurd h
    answers m a commits go (Asks a' commits' go') h answered r = let z = answered a' h.0 r in (go' z.0, (h.1 r z.0 z.1).1)
    answers m a commits go (Rests over) h answered r = absurd h

module _ {C P S A R W S' A' R' W' : Type 0} (most : ℕ) (AsksMatch : A → A' → Type 0) (AnswersMatch : A → A' → R → R' → Type 0) (StoresMatch : W → W' → Type 0) (Related : ℕ → S → S' → Type 0) (q : Machine C P S A R W) (p : Machine C P S' A' R' W') (by : BySteps most AsksMatch AnswersMatch StoresMatch Related q p) where
  -- the law of steps
  pub stands_by_steps : StandsFor q p
  stands_by_steps =
      let alike = same AsksMatch AnswersMatch q.next p.next most Related by.steps in
      lifted AsksMatch AnswersMatch StoresMatch q p by.rows (record {
        main = alike most q.main p.main by.main;
        started = λ calls. alike most (q.started calls) (p.started calls) (by.started calls);
        opening = by.opening;
      })

  -- with some state of p's thread
  abbrev Good : S → ℕ → Type 0
  Good s n = (u : S') × Goes AsksMatch AnswersMatch q.next p.next most Related n s u

  next : (s : S) (r : ℕ) (g : Good s r) (x : Next S A R) → q.next s ≡ x → Step AsksMatch AnswersMatch q.next p.next most Related r x g.0
  next s r g x e = subst (λ y. Step AsksMatch AnswersMatch q.next p.next most Related r y g.0) e (step AsksMatch AnswersMatch q.next p.next most Related by.steps g.1)

  -- the law of work
  pub within_by_steps : RunsAlone AsksMatch AnswersMatch q.rows → (input : List ℕ) (heap : ℕ) (journal : List Entry) (v : World S W) → Run q (opening q input heap) journal v → IsWithin q most v
  within_by_steps one = bounded q most Good (record {
    first = (p.main, by.main);
    silent = λ s r b after g e. let z = next s r g (Silent b after) e in (z.0, (z.1, z.3), z.4);
    asked = λ s r a commits go g e x. let z = next s r g (Asks a commits go) e in (z.0, answers AsksMatch AnswersMatch q.next p.next most Related by.steps z.0 a commits go (p.next z.1) z.3 (one.answered a) x, z.4);
    alone = one.alone;
  })
