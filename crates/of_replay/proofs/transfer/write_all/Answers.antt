use Rattle.std.proofs.Common.{◌≡◌, ◌+◌, ℕ, List, Option, [], subst, take, drop, arith, length-drop, sym, take-add}
use Rattle.std.{specs.Io.KnownBytes.Appends, proofs.lemmas.List.append-nil, proofs.lemmas.List.take-append-drop}
use Rattle.of_replay.proofs.TellingLemmas.{appends-none, appends-then}
use Rattle.of_replay.proofs.transfer.write_all.Goals as goal

-- the bytes before `at`, and then some of those behind it
taken_on : (old now new : Option (List ℕ)) (bytes rest : List ℕ) (at n : ℕ) → rest ≡ drop at bytes → Appends old now (take at bytes) → Appends now new (take n rest) → Appends old new (take (at + n) bytes)
taken_on old now new bytes rest at n is first more =
    subst (Appends old new) (sym (take-add at n bytes)) (appends-then old now new (take at bytes) (take n (drop at bytes)) first (subst (λ (x : List ℕ). Appends now new (take n x)) is more))

-- nothing more was taken
taken_so_far : (old now new : Option (List ℕ)) (front : List ℕ) → Appends old now front → Appends now new [] → Appends old new front
taken_so_far old now new front first none = subst (Appends old new) (append-nil front) (appends-then old now new front [] first none)

pub loop-at-init : goal.loop-at-init
loop-at-init g c = record { within = omega arith; taken = appends-none (g.W.Sink.taken c.args.writer.now); failures = c.requires }

pub loop-at-preserved : goal.loop-at-preserved
loop-at-preserved g c =
    let bytes = c.args.bytes.now in
    let at = c.loop-at.at in
    record {
      within = omega (arith, rw c.rest_from.ensures at c.in-Wrote.ensures.fits.1, length-drop at bytes, c.loop-at-test.true);
      taken = taken_on (g.W.Sink.taken c.args.writer.now) (g.W.Sink.taken c.loop-at.writer) _ bytes c.rest_from.result.now at c.in-Wrote.n c.rest_from.ensures c.loop-at.invariant.taken c.in-Wrote.ensures.taken;
      failures = omega (arith, c.in-Wrote.ensures.failures, c.loop-at.invariant.failures);
    }

pub returns-in-Fault-clause-front : goal.returns-in-Fault-clause-front
returns-in-Fault-clause-front g c =
    let bytes = c.args.bytes.now in
    let at = c.loop-at.at in
    (take at bytes, drop at bytes, take-append-drop at bytes, taken_so_far (g.W.Sink.taken c.args.writer.now) (g.W.Sink.taken c.loop-at.writer) _ (take at bytes) c.loop-at.invariant.taken c.in-Fault.ensures.taken)

pub returns-in-Fault-clause-grows : goal.returns-in-Fault-clause-grows
returns-in-Fault-clause-grows g c = (take c.loop-at.at c.args.bytes.now, taken_so_far (g.W.Sink.taken c.args.writer.now) (g.W.Sink.taken c.loop-at.writer) _ (take c.loop-at.at c.args.bytes.now) c.loop-at.invariant.taken c.in-Fault.ensures.taken)

pub returns-clause-grows : goal.returns-clause-grows
returns-clause-grows g c = (take c.loop-at.at c.args.bytes.now, c.loop-at.invariant.taken)
