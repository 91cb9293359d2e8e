use Rattle.std.proofs.Common.{◌≡◌, ◌++◌, ◌∙◌, ap, refl, List, ℕ}
use Rattle.of_headers.specs.FieldMap.{value}
use Rattle.of_trace.specs.{Sights.key_seen, Sights.sight_after, Notes.change_notes, Notes.step_changes, Notes.ttl_note, Notes.ttl_seen}
use Rattle.of_trace.proofs.NotingLemmas.{both, same_part}
use Rattle.of_trace.proofs.noting.push_changed.Goals as goal

pub returns : goal.returns
returns c =
    let s = c.args.sight.now in
    let after = sight_after c.args.step s in
    let keys = change_notes c.args.style (value c.key.result) (value c.key-2.result) in
    let times = ttl_note c.ttl.result c.ttl-2.result in
    let keys_are : keys ≡ change_notes c.args.style (key_seen s) (key_seen after) = rw (c.key.ensures, c.key-2.ensures, c.requires) refl in
    let times_are : times ≡ ttl_note (ttl_seen s) (ttl_seen after) = rw (c.ttl.ensures, c.ttl-2.ensures, c.requires) refl in
    let whole : keys ++ times ≡ step_changes c.args.style c.args.step s = ap (λ (l : List ℕ). l ++ times) keys_are ∙ ap (λ (l : List ℕ). change_notes c.args.style (key_seen s) (key_seen after) ++ l) times_are in
    same_part c.push_ttl_change.result c.args.out.now.items c.push_ttl_change.new.out.items (keys ++ times) (step_changes c.args.style c.args.step s) whole
    (both c.push_ttl_change.result c.args.out.now.items c.push_changes.new.out.items c.push_ttl_change.new.out.items keys times c.in_ok-push_changes.ensures c.push_ttl_change.ensures)
