-- A run that threw stands as one that memory cut short, where there is none for the name of the class.
use Rattle.std.proofs.Common.{◌≡◌, ℕ, List, Option, Some, refl, sym, subst}
use Rattle.std.specs.Io.KnownBytes.{Appends}
use Rattle.vb_value.specs.declared.stop.Stop.{Stop, TheVariants.{Ended, Uncaught, HeapLimit, TurnLimit, Memory, WriteFault}}
use Rattle.vb_bound.specs.Tree.{Tree}
use Rattle.vb_top.specs.{declared.outcome.{Report.Report, Answer.{Answer, TheVariants.Stopped}}, Headline.{IsNameIn, TellsRun}, Reports.{Gains, RanProgram}}
use Rattle.vb_code.specs.Code.{class_name}
use Rattle.vb_text.specs.Units.{utf8_of}

abbrev pub cut : Report → Report
cut r = record r { stop = Memory }

pub as_memory : (t : Tree) (r : Report) (thread class : ℕ) → r.stop ≡ Uncaught thread class → (input : List ℕ) (old new : Option (List ℕ)) (before now : ℕ) → RanProgram t r input old new before now → RanProgram t (cut r) input old new before now
as_memory t r thread class e input old new before now x =
    let gains : Gains t x.source r.tails x.source.store.console (Uncaught thread class) (λ text. Appends old new text) = subst (λ s. Gains t x.source r.tails x.source.store.console s (λ text. Appends old new text)) e x.shows.gains in
    let d = x.did in
    record {
      source = x.source;
      machine = x.machine;
      thread = x.thread;
      steps = x.steps;
      shows = record { legal = x.shows.legal; tails = x.shows.tails; gains = gains };
      stands = tt;
      stands_in_code = tt;
      did = record { checked = d.checked; stands = d.stands; legal = d.legal; same_text = d.same_text; input_left = d.input_left; one = d.one; paid = d.paid; tails = d.tails };
      counted = λ wide some. let c = x.counted wide some in record { within = c.within; begun = c.begun; threads = c.threads; units = c.units; work = c.work };
      mains = x.mains;
      faulted = λ k. cc;
    }

pub tells_as_stopped : (r : Report) (said : Answer) (report : Option Report) (name : List ℕ) → said ≡ Stopped r.stop → report ≡ Some r → IsNameIn r r.stop name → TellsRun r said report name
tells_as_stopped r said report name e k n = record { kept = r; report_is = k; said_is = e; named = n; ran = λ t input old new before now x. x }

pub tells_as_memory : (r : Report) (said : Answer) (report : Option Report) (name : List ℕ) (thread class : ℕ) → r.stop ≡ Uncaught thread class → said ≡ Stopped Memory → report ≡ Some (cut r) → TellsRun r said report name
tells_as_memory r said report name thread class u e k = record { kept = cut r; report_is = k; said_is = e; named = tt; ran = λ t input old new before now x. as_memory t r thread class u input old new before now x }

-- only a class that was thrown has a name
pub no_name : (r : Report) (stop : Stop) (name : List ℕ) → ((thread class : ℕ) → stop ≡ Uncaught thread class → ⊥) → IsNameIn r stop name
no_name r Ended name h = tt
no_name r (Uncaught thread class) name h = absurd (h thread class refl)
no_name r HeapLimit name h = tt
no_name r TurnLimit name h = tt
no_name r WriteFault name h = tt
no_name r Memory name h = tt

pub its_name : (r : Report) (thread class : ℕ) (name : List ℕ) → r.stop ≡ Uncaught thread class → name ≡ utf8_of (class_name r.code class) → IsNameIn r r.stop name
its_name r thread class name u e = subst (λ s. IsNameIn r s name) (sym u) e
