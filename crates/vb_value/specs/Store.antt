-- What the threads of a program share, and one row for each thing that a thread may ask of it.
use Rattle.std.specs.Prelude.{ℕ, ◌+◌, Bool, true, nat_le, List, [], ◌∷◌, ◌++◌, length, Option, Some, None}
use Rattle.vb_threads.specs.Machine.{View, Sign, AsksNew, AsksWrite, Rows}
use Rattle.vb_text.specs.Units.{utf8_of}

-- the user's objects by number: the full name of each one's class
abbrev pub Places : Type 0
Places = List (List ℕ)

-- the procedures that a started thread calls, by number
abbrev pub Calls : Type 0
Calls = List ℕ

-- The objects, the heap units of all of them and the most that are allowed, the threads that have ended, the input that
-- is left, and the bytes of the console.
pub record Store : Type 0 where
  pub objects : Places
  pub units : ℕ
  pub heap : ℕ
  pub ended : List ℕ
  pub input : List ℕ
  pub console : List ℕ

-- What a thread asks: an object of a class, by its full name and its heap units; that a text be written; that it has ended.
pub data Ask : Type 0 where
  New : (class : List ℕ) (units : ℕ) → Ask
  Write : (text : List ℕ) → Ask
  End : Ask

-- what it is answered: that it was done, or the number of the new object
pub data Reply : Type 0 where
  Done : Reply
  Made : (object : ℕ) → Reply

-- a new object is within the heap limit
abbrev pub fits : Store → Ask → Bool
fits w (New class units) = nat_le (w.units + units) w.heap
fits w (Write text) = true
fits w End = true

abbrev pub reply : Store → Ask → Reply
reply w (New class units) = Made (length w.objects)
reply w (Write text) = Done
reply w End = Done

-- the store after thread t's ask (.NET documentation: Console.Write writes the text's UTF-8)
abbrev pub after : Store → ℕ → Ask → Store
after w t (New class units) = record w { objects = w.objects ++ class ∷ []; units = w.units + units }
after w t (Write text) = record w { console = w.console ++ utf8_of text }
after w t End = record w { ended = w.ended ++ t ∷ [] }

abbrev pub sign_of : Ask → Option Sign
sign_of (New class units) = Some (AsksNew class units)
sign_of (Write text) = Some (AsksWrite text)
sign_of End = None

abbrev pub seen : Store → View Places
seen w = record { places = w.objects; ended = w.ended; input = w.input; console = w.console; units = w.units }

-- the store before the first step
abbrev pub opened : List ℕ → ℕ → Store
opened input heap = record { objects = []; units = 0; heap = heap; ended = []; input = input; console = [] }

-- the store's rows: each ask is enabled, and none starts a thread
abbrev pub store_rows : Rows Calls Places Ask Reply Store
store_rows = record {
  enabled = λ w t a. true;
  fits = fits;
  answer = λ w t a. reply w a;
  after = after;
  born = λ w a r. None;
  sign = λ w a. sign_of a;
  sees = seen;
}
