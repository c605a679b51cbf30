-- One program does each step of another by a script of several asks, of which one is committed.
use Rattle.std.specs.Prelude.{◌≡◌, ℕ, ◌+◌, Bool, true, false, List, [], ◌∷◌, ◌⊎◌, Some, None}
use Rattle.vb_threads.specs.{Machine.{Sign, Next, Silent, Asks, Rests, Machine, quiet, begun, IsSettled}, World.{World, Entry, at, put}, Stands.{sign, IsStuck, Answered}, Same.RestsAlike, Holding.with_born_held}

-- H is where a thread stands in its scripts, with what it knows and owns of the store there. Related h s n u: a thread of q that stands at h is in state s, has begun
-- n statements since the last ask that both made, and p's was in state u then. StoresMatch hs v w: the stores correspond while the threads stand at hs.
-- Fine is what is known of each store of the run, as from its end. Idle v t h: a thread that can do nothing may stand at h
module _ {C P S A R W S' A' R' W' H : Type 0} (q : Machine C P S A R W) (p : Machine C P S' A' R' W') (Related : H → S → ℕ → S' → Type 0) (StoresMatch : List H → W → W' → Type 0) (Fine : W → Type 0) (Idle : W → ℕ → H → Type 0) where
  -- only q does something, and it isn't committed
  pub record OwnMove (hs : List H) (v : W) (w : W') (t : ℕ) (a : A) (commits : R → Bool) (go : R → S) (n : ℕ) (u : S') : Type 0 where
    pub uncommitted : commits (q.rows.answer v t a) ≡ false
    pub unborn : q.rows.born v a (q.rows.answer v t a) ≡ None
    pub held : H
    pub store : StoresMatch (put hs t held) (q.rows.after v t a) w
    pub rel : Related held (go (q.rows.answer v t a)) n u

  -- both do something, which counts alike
  pub record KeptMove (hs : List H) (v : W) (w : W') (t : ℕ) (a : A) (commits : R → Bool) (go : R → S) (y : Next S' A' R') : Type 0 where
    pub ask' : A'
    pub commits' : R' → Bool
    pub go' : R' → S'
    pub is : y ≡ Asks ask' commits' go'
    pub enabled' : p.rows.enabled w t ask' ≡ true
    pub fits' : p.rows.fits w ask' ≡ true
    pub counts : commits (q.rows.answer v t a) ≡ commits' (p.rows.answer w t ask')
    pub born : q.rows.born v a (q.rows.answer v t a) ≡ p.rows.born w ask' (p.rows.answer w t ask')
    pub held : H
    pub fresh : H
    pub starts : (calls : C) → q.rows.born v a (q.rows.answer v t a) ≡ Some calls → Related fresh (q.started calls) 0 (p.started calls)
    pub store : StoresMatch (with_born_held fresh (q.rows.born v a (q.rows.answer v t a)) (put hs t held)) (q.rows.after v t a) (p.rows.after w t ask')
    pub rel : Related held (go (q.rows.answer v t a)) 0 (go' (p.rows.answer w t ask'))

  -- each thread stands where one that can do nothing may stand
  abbrev pub AllIdle : List H → W → Type 0
  AllIdle hs v = (t : ℕ) (h : H) → at hs t ≡ Some h → Idle v t h

  -- at an ask a of q, where p is settled at u: over all stores that correspond
  pub record AtAsk (h : H) (t : ℕ) (a : A) (commits : R → Bool) (go : R → S) (n : ℕ) (before u : S') : Type 0 where
    -- what shows of q's thread shows of p's
    pub signs : (hs : List H) (v : W) (w : W') → StoresMatch hs v w → at hs t ≡ Some h → (z : Sign) → q.rows.sign v a ≡ Some z → sign p.rows w (p.next u) ≡ Some z
    -- q's thread waits only where it may
    pub rests : (hs : List H) (v : W) (w : W') → StoresMatch hs v w → at hs t ≡ Some h → q.rows.enabled v t a ≡ false → Idle v t h
    -- and p's waits there too, where all threads of q stand so
    pub waits : (hs : List H) (v : W) (w : W') → StoresMatch hs v w → at hs t ≡ Some h → AllIdle hs v → q.rows.enabled v t a ≡ false → IsStuck p.rows w t (p.next u)
    -- each entry of q is one of these
    pub moves : (hs : List H) (v : W) (w : W') → StoresMatch hs v w → at hs t ≡ Some h → q.rows.enabled v t a ≡ true → q.rows.fits v a ≡ true → Fine (q.rows.after v t a)
        → OwnMove hs v w t a commits go n before ⊎ KeptMove hs v w t a commits go (p.next u)

  -- at an end of q's thread p's ends too, and it may stand there for ever
  pub record AtEnd (h : H) (t : ℕ) (y : Type 0) : Type 0 where
    pub alike : y
    pub rests : (hs : List H) (v : W) (w : W') → StoresMatch hs v w → at hs t ≡ Some h → Idle v t h

  abbrev pub Acts : H → ℕ → Next S A R → ℕ → S' → S' → Type 0
  Acts h t (Silent b s) n before u = Unit {0}
  Acts h t (Asks a commits go) n before u = AtAsk h t a commits go n before u
  Acts h t (Rests over) n before u = AtEnd h t (RestsAlike over (p.next u))

  -- after k steps of a thread of q, p's can be settled, and q's does there what p's does
  pub record Ready (h : H) (t k : ℕ) (s : S) (n : ℕ) (u : S') : Type 0 where
    pub steps : ℕ
    pub counts : begun p.next steps u ≡ n + begun q.next k s
    pub settled : IsSettled (p.next (quiet p.next steps u))
    pub acts : Acts h t (q.next (quiet q.next k s)) (n + begun q.next k s) u (quiet p.next steps u)

-- each step of p is a script of q, where K is what the whole run settles for all threads. It is what the last store knows, and was fine before
pub record ByScripts {C P S A R W S' A' R' W' H K : Type 0} (Related : K → H → S → ℕ → S' → Type 0) (StoresMatch : K → List H → W → W' → Type 0) (Fine : K → W → Type 0) (Idle : K → W → ℕ → H → Type 0) (q : Machine C P S A R W) (p : Machine C P S' A' R' W') : Type 0 where
  pub known : (v : W) → (k : K) × Fine k v
  pub back : (k : K) (v : W) (t : ℕ) (a : A) → Fine k (q.rows.after v t a) → Fine k v
  pub none : K → H
  pub main : (k : K) → Related k (none k) q.main 0 p.main
  pub opening : (k : K) (input : List ℕ) (heap : ℕ) → StoresMatch k (none k ∷ []) (q.opening input heap) (p.opening input heap)
  pub sees : (k : K) (hs : List H) (v : W) (w : W') → StoresMatch k hs v w → q.rows.sees v ≡ p.rows.sees w
  -- a silent step of q keeps the relation, with p where it was
  pub silent : (k : K) (h : H) (s : S) (n : ℕ) (u : S') (b : ℕ) (s' : S) → Related k h s n u → q.next s ≡ Silent b s' → Related k h s' (n + b) u
  -- each state of q has p's settled one
  pub ready : (k : K) (h : H) (t : ℕ) (s : S) (n : ℕ) (u : S') → Related k h s n u → Ready q p (Related k) (StoresMatch k) (Fine k) (Idle k) h t 0 s n u

-- the run of p that answers to a run of q, with stores that correspond at its end
pub record Matched {C P S A R W S' A' R' W' H K : Type 0} (StoresMatch : K → List H → W → W' → Type 0) (q : Machine C P S A R W) (p : Machine C P S' A' R' W') (start : World S' W') (journal : List Entry) (v : World S W) : Type 0 where
  pub answer : Answered q p start journal v
  pub k : K
  pub held : List H
  pub stores : StoresMatch k held v.store answer.world.store
