-- P1's text makes P1's bytes, written with and without brackets, and a bad line is named. Each line is read by computing.
use mathlib.Core.Path.{◌≡◌, refl, ap, subst, ◌∙◌}
use mathlib.Core.Bool.{true}
use mathlib.Core.List.{List, [], ◌∷◌, ◌++◌}
use mathlib.Core.Logic.{inl}
use Prim.Native.Nat.{ℕ, ◌≤◌}
use Prim.Native.String.{String}
use native.Mathlib.Omega.{arith}
use lib.Dec.{lit≤}
use lib.ListN.{length, drop}
use Rattle.std.specs.Prelude.{None, Ok}
use Rattle.image.specs.Checks.{check_of}
use Rattle.image.specs.Valid.{image_in}
use Rattle.grammar.specs.Text.{longest_text, Begins, start, Reads, Stops, at_line}
use Rattle.grammar.specs.Layout.{image_from}
use Rattle.grammar.specs.declared.read.Line.TheVariants.{Cycle, Phase, Synchronizer, Arc}
use Rattle.grammar.specs.declared.read.Read.{Read}
use Rattle.grammar.specs.Inside.Reader.{line_at}
use Rattle.grammar.proofs.Computed.{reading, said, Found, fit, begun, none_stands}
use Rattle.report.specs.Ascii.{ascii}
use Rattle.text.specs.TextPromise.{faulty, made}
use Rattle.text.proofs.OneOutcome.{text_one}
use Rattle.known.specs.Circuits.{p1, known}
use Rattle.known.proofs.Known.{known_holds}
use Rattle.known.specs.Written.{p1_text, p6_text, bad_text, MakesImage, RefusedFor, Texts}

-- ---- the ring
abbrev start_of_ring : List Read
start_of_ring =
    record { line = Cycle 100; next = 7 } ∷
    record { line = Phase (record { closing = 50; active = 40 }); next = 19 } ∷
    record { line = Phase (record { closing = 100; active = 40 }); next = 32 } ∷ []

-- both texts have the same lines; the place behind each arc differs
abbrev ring_lines : ℕ → ℕ → List Read
ring_lines sixth seventh =
    start_of_ring ++
    record { line = Synchronizer (record { phase = 0; kind = 0; setup = 10; hold = 5; least = 5; greatest = 10 }); next = 50 } ∷
    record { line = Synchronizer (record { phase = 1; kind = 0; setup = 10; hold = 5; least = 5; greatest = 10 }); next = 68 } ∷
    record { line = Arc (record { from = 1; to = 0; least = 10; greatest = 20 }); next = sixth } ∷
    record { line = Arc (record { from = 0; to = 1; least = 20; greatest = 60 }); next = seventh } ∷ []

p1_found : Found (ascii p1_text) 0 (ring_lines 82 96)
unfolding reading
p1_found = (refl, (refl, (refl, (refl, (refl, (refl, (refl, tt)))))))

p6_found : Found (ascii p6_text) 0 (ring_lines 88 115)
unfolding reading
p6_found = (refl, (refl, (refl, (refl, (refl, (refl, (refl, tt)))))))

-- the image of its lines
ring_image : (sixth seventh : ℕ) → image_from (said (ring_lines sixth seventh)) ≡ p1
unfolding image_from p1
ring_image sixth seventh = refl

p1_good : check_of p1 ≡ Ok (image_in p1)
unfolding known
p1_good = known_holds.0.accepted

-- a text with these lines makes the image
makes : (text : String) (sixth seventh : ℕ) → length (ascii text) ≤ longest_text → Found (ascii text) 0 (ring_lines sixth seventh) →
    fit 0 (ring_lines sixth seventh) ≡ true → drop seventh (ascii text) ≡ [] → MakesImage text p1
makes text sixth seventh short found placed end before long X after call =
    let lines = said (ring_lines sixth seventh) in
    let b = begun (ascii text) (ring_lines sixth seventh) 0 0 [] start found placed in
    let reads : Reads (ascii text) lines = record { short = short; stage = 3; begun = lit≤ tt; whole = subst (Begins (ascii text) 3 lines) end b } in
    let good : check_of (image_from lines) ≡ Ok (image_in p1) = ap check_of (ring_image sixth seventh) ∙ p1_good in
    let same = ap length (ring_image sixth seventh) in
    let out = text_one call (made reads good (omega (arith, same, long))) in
    (out.0 ∙ ap Ok same, out.1 ∙ ap (λ (i : List ℕ). i ++ drop (length i) before) (ring_image sixth seventh))

-- ---- the bad line
bad_found : Found (ascii bad_text) 0 start_of_ring
unfolding reading
bad_found = (refl, (refl, (refl, tt)))

bad_none : line_at (ascii bad_text) 32 ≡ None
unfolding reading
bad_none = refl

refuses : RefusedFor bad_text 3
refuses before X after call =
    let text = ascii bad_text in
    let short : length text ≤ longest_text = lit≤ tt in
    let stops : Stops text 3 = record {
      short = short;
      stage = 1;
      lines = said start_of_ring;
      rest = drop 32 text;
      before = begun text start_of_ring 0 0 [] start bad_found refl;
      count = refl;
      unfinished = inl (λ e. let long = ap length e in omega (arith, long));
      stuck = none_stands text 32 1 bad_none;
    } in
    text_one call (faulty (at_line stops))

pub known_texts : Texts
known_texts = record {
  p1_made = makes p1_text 82 96 (lit≤ tt) p1_found refl refl;
  p6_made = makes p6_text 88 115 (lit≤ tt) p6_found refl refl;
  bad_line = refuses;
}
