use Rattle.of_trace.{specs.Notes.look_notes, specs.Notes.miss_notes, specs.Sights.key_seen, proofs.NotingLemmas.both}
use Rattle.of_trace.proofs.noting.push_notes.Goals as goal

pub returns-in_ok-push_miss_note-in-Miss : goal.returns-in_ok-push_miss_note-in-Miss
returns-in_ok-push_miss_note-in-Miss g c =
    let t = c.in-Miss.table in
    rw c.in-Miss.is
    (both c.push_look_notes.result c.args.out.now.items c.push_miss_note.new.out.items c.push_look_notes.new.out.items (miss_notes c.args.style t) (look_notes c.args.style c.args.switch.now.core.forwarding c.args.asked t (key_seen c.args.sight.now)) c.in_ok-push_miss_note-in-Miss.ensures c.push_look_notes.ensures)
