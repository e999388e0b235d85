-- What is known of an image, as a check. The rounds are worked out and compared: where they settle they are the least departures. A
-- ring that passes leaves no late departures that fit.
use mathlib.Core.Path.{◌≡◌, refl}
use mathlib.Core.Bool.{true}
use mathlib.Core.List.{List, [], ◌∷◌, ◌++◌}
use Rattle.std.specs.Prelude.{Result, Ok, Err}
use Prim.Native.Nat.{ℕ, suc, pred, ◌*◌}
use Prim.Native.String.{String}
use native.Mathlib.Omega.{arith}
use lib.IntN.{ℤ, pos}
use lib.ListN.{length, drop}
use Rattle.image.specs.Checks.{check_of}
use Rattle.image.specs.Valid.{Valid}
use Rattle.image.specs.declared.header.Image.{Image}
use Rattle.image.specs.declared.refusal.Refusal.{Refusal}
use Rattle.image.proofs.Validity.{passed, valid, accepts}
use Rattle.flow.specs.Flow.{Flow, Side, late, early}
use Rattle.flow.specs.Inside.Rounds.{round, Settled}
use Rattle.flow.specs.Walk.{Walk, gain, sources, GrowingRing}
use Rattle.flow.proofs.Rounds.{settled_least}
use Rattle.flow.proofs.Walks.{fits_calm}
use Rattle.circuit.specs.Circuit.{Circuit, circuit_of}
use Rattle.circuit.specs.Clock.{flow}
use Rattle.circuit.proofs.Sound.{Sound, sound, good}
use Rattle.circuit.specs.Times.{results, missed_setups, missed_holds}
use Rattle.timing.specs.declared.timing_call.Answer.TheVariants as answer
use Rattle.report.specs.Ascii.{ascii}
use Rattle.report.specs.Text.{text_of}
use Rattle.report.specs.Promise.{zeros, no_arcs}
use Rattle.known.specs.Circuits.{Outcome, timed, growing, path, Known}
use Rattle.known.specs.Holds.{Timed, Grows, CameOver, Comes, Holds, AllOf}
use Rattle.known.proofs.Traces.{tracing}
use Rattle.known.proofs.Rings.{lonely}
use Rattle.known.proofs.Checks.{Check, given, always, never, ◌and◌, less, at_most, equal, less_ℤ, equal_ℤ, is_true, equals, every, distinct, below}

-- an answer that accepts
abbrev answered : (answer : Result Image Refusal) → Check ((x : Image) × (answer ≡ Ok x))
answered (Ok x) = record { test = true; sound = λ t. (x, refl) }
answered (Err why) = never

abbrev pub acceptance : (bytes : List ℕ) → Check (Valid bytes)
acceptance bytes = given (λ h. valid bytes (passed bytes h.0 h.1)) (answered (check_of bytes))

-- round n + 1 changes nothing
abbrev pub settling : (s : Side) (f : Flow) (n : ℕ) → Check (Settled s f n)
settling s f n = below (λ i. equal_ℤ (round s f (suc n) i) (round s f n i)) f.nodes

-- l rounds, less one, are enough for l synchronizers
abbrev timing : (c : Circuit) (numbers : List ℤ) (setups holds : ℕ) (text : String) → Check (Sound c → Timed c numbers setups holds text)
timing c numbers setups holds text =
    let n = pred c.synchronizers in
    let E = round early (flow early c) n in
    let D = round late (flow late c) n in
    given
    (λ h v. record {
      soonest = E;
      latest = D;
      times = record {
        early = settled_least early (flow early c) (good early c v) n h.0;
        late = settled_least late (flow late c) (good late c v) n h.1.0;
      };
      gives = h.1.1.0;
      setups_missed = h.1.1.1.0;
      holds_missed = h.1.1.1.1.0;
      prints = h.1.1.1.1.1;
    })
    (settling early (flow early c) n
    and settling late (flow late c) n
    and equals equal_ℤ (results c E D c.synchronizers) numbers
    and equal (missed_setups c D) setups
    and equal (missed_holds c E) holds
    and equals equal (text_of c.synchronizers (Ok (answer.Timed setups holds)) (numbers ++ drop (6 * c.synchronizers) zeros) no_arcs) (ascii text))

-- the arcs lead from i to j, from latch to latch
abbrev pub walking : (f : Flow) (i : ℕ) (p : List ℕ) (j : ℕ) → Check (Walk f i p j)
walking f i [] j = equal i j
walking f i (a ∷ p) j =
    given (λ h. (record { here = h.0; from = h.1.0; holds = h.1.1.0 }, h.1.1.1))
    (less a f.arcs and equal (f.source a) i and is_true (f.latch (f.target a)) and walking f (f.target a) p j)

-- the ring starts where its first arc leaves
abbrev growth : (c : Circuit) (arcs : List ℕ) (total : ℤ) (text : String) → Check (Sound c → Grows c arcs total text)
growth c [] total text = never
growth c (a ∷ p) total text =
    let f = flow late c in
    let i = c.from a in
    given
    (λ h v.
    let r : GrowingRing f = record {
      ring = record { start = i; path = a ∷ p; some = omega arith; closed = h.0; distinct = h.1.0 };
      grows = h.1.1.0;
    } in
    record {
      never = λ D fits. fits_calm f (good late c v) D fits r;
      loop = r;
      path = refl;
      lowest = h.1.1.1.0;
      gains = h.1.1.1.1.0;
      only = h.1.1.1.1.1.0 (good late c v);
      prints = h.1.1.1.1.1.1;
    })
    (walking f i (a ∷ p) i
    and distinct (sources f (a ∷ p))
    and less_ℤ (pos 0) (gain f (a ∷ p))
    and every (at_most i) (sources f (a ∷ p))
    and equal_ℤ (gain f (a ∷ p)) total
    and lonely f (a ∷ p)
    and equals equal (text_of c.synchronizers (Ok (answer.Growing (length (a ∷ p)) total)) zeros ((a ∷ p) ++ drop (length (a ∷ p)) no_arcs)) (ascii text))

-- the path, by the departures that the rounds settle at
abbrev leading : (c : Circuit) (i s : ℕ) (arcs : List ℕ) → Check (Sound c → CameOver c i s arcs)
leading c i s arcs =
    let n = pred c.synchronizers in
    given
    (λ h v.
    let least = settled_least late (flow late c) (good late c v) n h.0 in
    record { latest = round late (flow late c) n; least = least; leads = h.1 (good late c v) least.fits })
    (settling late (flow late c) n and tracing (flow late c) n i s arcs)

abbrev coming : (c : Circuit) (o : Outcome) → Check (Sound c → Comes c o)
coming c (timed numbers setups holds text) = timing c numbers setups holds text
coming c (growing arcs total text) = growth c arcs total text
coming c (path i s arcs) = leading c i s arcs

-- all that is known of one circuit, and of a list of them
abbrev pub holding : (k : Known) → Check (Holds k)
holding k =
    given (λ h. record { accepted = (accepts k.bytes).0 h.0; comes = h.1 (sound k.bytes h.0) })
    (acceptance k.bytes and coming (circuit_of k.bytes) k.outcome)

abbrev pub holdings : (ks : List Known) → Check (AllOf Holds ks)
holdings [] = always
holdings (k ∷ ks) = holding k and holdings ks
