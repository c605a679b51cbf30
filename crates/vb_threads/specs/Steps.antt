-- One thread goes on with another: each step of the first is none, one or several steps of the second.
use Rattle.std.specs.Prelude.{◌≡◌, ℕ, ◌+◌, ◌*◌, ◌≤◌, Bool, true, false, List, None}
use Rattle.vb_threads.specs.{Machine.{Over, Next, Silent, Asks, Rests, Rows, Machine, quiet, begun}, Same.RowsAgree}

-- silent steps that begin so many statements lead a thread from u to u'
pub record Passes {S A R : Type 0} (next : S → Next S A R) (begins : ℕ) (u u' : S) : Type 0 where
  pub steps : ℕ
  pub counts : begun next steps u ≡ begins
  pub arrives : quiet next steps u ≡ u'

-- AsksMatch and AnswersMatch are as in `Same`. Related n s u: the first thread may be in state s where the second is in u,
-- and then does at most n steps before it begins the next statement or ends
module _ {S A R S' A' R' : Type 0} (AsksMatch : A → A' → Type 0) (AnswersMatch : A → A' → R → R' → Type 0) (q : S → Next S A R) (p : S' → Next S' A' R') (most : ℕ) (Related : ℕ → S → S' → Type 0) where
  -- The first thread, in state s, and the second, in u, go on until their states are Related. Where a step is due, the first does one at least. It does
  -- at most n steps before it begins the next statement or ends: each step uses one up, and each statement that is begun gives most more
  pub data GoesWith : (due : Bool) → ℕ → S → S' → Type 0 where
    -- their states are Related, after silent steps of the second that begin nothing
    meets : {n m : ℕ} {s : S} {u u' : S'} → Passes p 0 u u' → Related m s u' → m ≤ n → GoesWith false n s u
    -- a silent step of the first is silent steps of the second, which begin as many statements
    silent : {due : Bool} {n m b : ℕ} {s s' : S} {u u' : S'} → q s ≡ Silent b s' → Passes p b u u' → GoesWith false m s' u' → m + 1 ≤ n + most * b → GoesWith due n s u
    -- after silent steps of the second that begin nothing, both ask what corresponds, and whatever corresponds is answered, both commit or neither, and both go on
    asks : {due : Bool} {n m : ℕ} {s : S} {u u' : S'} {ask : A} {ask' : A'} {commits : R → Bool} {commits' : R' → Bool} {go : R → S} {go' : R' → S'}
        → q s ≡ Asks ask commits go → Passes p 0 u u' → p u' ≡ Asks ask' commits' go' → AsksMatch ask ask'
        → ((r : R) (r' : R') → AnswersMatch ask ask' r r' → commits r ≡ commits' r')
        → ((r : R) (r' : R') → AnswersMatch ask ask' r r' → GoesWith false m (go r) (go' r')) → m + 1 ≤ n → GoesWith due n s u
    -- after silent steps of the second that begin nothing, both rest alike
    rests : {due : Bool} {n : ℕ} {s : S} {u u' : S'} {over : Over} → q s ≡ Rests over → Passes p 0 u u' → p u' ≡ Rests over → GoesWith due n s u

-- each thread of q goes on with p's, and does at most so many steps for each statement that it begins
pub record BySteps {C P S A R W S' A' R' W' : Type 0} (most : ℕ) (AsksMatch : A → A' → Type 0) (AnswersMatch : A → A' → R → R' → Type 0) (StoresMatch : W → W' → Type 0) (Related : ℕ → S → S' → Type 0) (q : Machine C P S A R W) (p : Machine C P S' A' R' W') : Type 0 where
  pub rows : RowsAgree AsksMatch AnswersMatch StoresMatch q.rows p.rows
  pub opening : (input : List ℕ) (heap : ℕ) → StoresMatch (q.opening input heap) (p.opening input heap)
  pub main : GoesWith AsksMatch AnswersMatch q.next p.next most Related false most q.main p.main
  pub started : (calls : C) → GoesWith AsksMatch AnswersMatch q.next p.next most Related false most (q.started calls) (p.started calls)
  -- from Related states at least one step of q comes
  pub steps : (n : ℕ) (s : S) (u : S') → Related n s u → GoesWith AsksMatch AnswersMatch q.next p.next most Related true n s u

-- no thread is started, and to asks that correspond each answer has one that corresponds
pub record RunsAlone {C P A R W A' R' : Type 0} (AsksMatch : A → A' → Type 0) (AnswersMatch : A → A' → R → R' → Type 0) (rows : Rows C P A R W) : Type 0 where
  pub alone : (w : W) (ask : A) (answer : R) → rows.born w ask answer ≡ None
  pub answered : (ask : A) (ask' : A') → AsksMatch ask ask' → (r : R) → (r' : R') × AnswersMatch ask ask' r r'
