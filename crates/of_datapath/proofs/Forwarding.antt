-- A packet through the tables: what the code does by numbers is what is done by places.
use Rattle.std.proofs.Common.{◌≡◌, ℕ, ◌≤◌, Bool, true, false, List, length, Option, Some, None, slice_set, if◌then◌else◌, flat_map, refl, sym, ap, ◌∙◌, arith}
use Rattle.std.proofs.lemmas.List.Elements.{All-weaker}
use Rattle.of_table.specs.Tables.{NumberedTables}
use Rattle.of_groups.specs.declared.group.Group.{Group}
use Rattle.of_ports.specs.declared.port.Port.{Port}
use Rattle.of_machine.specs.{declared.data.Item.Item, declared.data.Count.Count, declared.data.Packet.Packet, Growth.AllShort, Growth.frame_of, Rows.Work, Runs.Machine, Runs.run_of}
use Rattle.of_machine.{specs.Renumbering.renumbered_machine, proofs.Renumbering.run_is_renumbered}
use Rattle.of_datapath.specs.Told.{each_told, effects_of, frames_for, given_items, held_after}
use Rattle.of_datapath.specs.Datapath.{Forwarding, world_of, applied, forwards, all_sent, all_tallied}
use Rattle.of_datapath.specs.Buffers.{Held, HeldFrames, given_since, hold_all, is_id, none_held, used}
use Rattle.of_datapath.specs.Numbers.{Contents, contents, without_numbers, numbered_world, place_in, all_placed}
use Rattle.of_datapath.specs.{declared.control.AsyncConfig.AsyncConfig, declared.effect.Effect.Effect, Applying.with_held, Applying.with_reception, Applying.without_used}
use Rattle.of_datapath.{specs.declared.reception.Reception.Reception, proofs.Worlds.AreDistinct, proofs.Worlds.renumbered_world}

-- what is done by places, of a run by numbers
by_places : (heard : AsyncConfig) (seen : List Port) (p : Packet) (work : List Work) (t : NumberedTables) (groups : List Group) (ports : List Port) (f : Forwarding) → AreDistinct t
    → applied heard seen (run_of (world_of (without_numbers t groups ports none_held)) p work) f ≡ applied heard seen (renumbered_machine (place_in t) (run_of (numbered_world t groups ports) p work)) f
by_places heard seen p work t groups ports f distinct =
    ap (λ (m : Machine). applied heard seen m f)
    (run_is_renumbered (place_in t) (numbered_world t groups ports) (world_of (without_numbers t groups ports none_held)) (renumbered_world t groups ports distinct) p work)

-- what a run by numbers gives and counts
pub way_is : (heard : AsyncConfig) (p packet : Packet) (work : List Work) (t : NumberedTables) (groups : List Group) (ports : List Port) (items : List Item) (counts : List Count) (effects : List Effect) (seen : List Port) (next : ℕ) (before after : Forwarding)
    → AreDistinct t
    → packet ≡ p
    → items ≡ (run_of (numbered_world t groups ports) packet work).items
    → counts ≡ (run_of (numbered_world t groups ports) packet work).counts
    → seen ≡ ports
    → next ≡ before.held.next
    → effects ≡ each_told heard next (given_items heard seen items)
    → after ≡ all_sent effects (all_tallied (all_placed t counts) (record before { held = hold_all (flat_map (frames_for heard) (given_items heard seen items)) before.held }))
    → applied heard ports (run_of (world_of (without_numbers t groups ports none_held)) p work) before ≡ forwards effects after
way_is heard p packet work t groups ports items counts effects seen next before after distinct enters is_items is_counts same id told ends =
    let m = run_of (numbered_world t groups ports) p work in
    let the_items : items ≡ m.items = is_items ∙ ap (λ (q : Packet). (run_of (numbered_world t groups ports) q work).items) enters in
    let the_counts : counts ≡ m.counts = is_counts ∙ ap (λ (q : Packet). (run_of (numbered_world t groups ports) q work).counts) enters in
    let the_given : given_items heard seen items ≡ given_items heard ports m.items = ap (given_items heard seen) the_items ∙ ap (λ (ps : List Port). given_items heard ps m.items) same in
    let the_effects : effects ≡ effects_of heard ports before.held m.items =
    told ∙ ap (λ (n : ℕ). each_told heard n (given_items heard seen items)) id ∙ ap (each_told heard before.held.next) the_given in
    let left : List Item → Forwarding = λ is. record before { held = hold_all (flat_map (frames_for heard) is) before.held } in
    let ended : after ≡ all_sent (effects_of heard ports before.held m.items) (all_tallied (all_placed t m.counts) (record before { held = held_after heard ports before.held m.items })) =
    ends ∙ ap (λ (is : List Item). all_sent effects (all_tallied (all_placed t counts) (left is))) the_given
    ∙ ap (λ (es : List Effect). all_sent es (all_tallied (all_placed t counts) (left (given_items heard ports m.items)))) the_effects
    ∙ ap (λ (cs : List Count). all_sent (effects_of heard ports before.held m.items) (all_tallied (all_placed t cs) (left (given_items heard ports m.items)))) the_counts in
    by_places heard ports p work t groups ports before distinct
    ∙ (ap (λ (g : Forwarding). forwards (effects_of heard ports before.held m.items) g) (sym ended)
    ∙ ap (λ (es : List Effect). forwards es after) (sym the_effects))

-- the same where the code saw contents that are these
pub went : (heard : AsyncConfig) (p packet : Packet) (work : List Work) (t : NumberedTables) (groups : List Group) (ports : List Port) (held : HeldFrames) (mid : Contents) (items : List Item) (counts : List Count) (effects : List Effect) (reception : Option Reception) (id : Option ℕ) (before after : Forwarding)
    → AreDistinct t
    → packet ≡ p
    → items ≡ (run_of (numbered_world t groups ports) packet work).items
    → counts ≡ (run_of (numbered_world t groups ports) packet work).counts
    → mid ≡ contents t groups ports held
    → held.next ≡ before.held.next
    → ((frames : List Held) → with_held id frames (with_reception reception (without_numbers t groups ports held)) ≡ record before { held = hold_all frames before.held })
    → effects ≡ each_told heard mid.held.next (given_items heard mid.ports items)
    → after ≡ all_sent effects (all_tallied (all_placed mid.tables counts) (with_held id (flat_map (frames_for heard) (given_items heard mid.ports items)) (with_reception reception (without_numbers mid.tables mid.groups mid.ports mid.held))))
    → applied heard ports (run_of (world_of (without_numbers t groups ports none_held)) p work) before ≡ forwards effects after
went heard p packet work t groups ports held mid items counts effects reception id before after distinct enters is_items is_counts same next begins told ends =
    let frames = flat_map (frames_for heard) (given_items heard mid.ports items) in
    let here : after ≡ all_sent effects (all_tallied (all_placed t counts) (record before { held = hold_all frames before.held })) =
    ends ∙ ap (λ (k : Contents). all_sent effects (all_tallied (all_placed k.tables counts) (with_held id frames (with_reception reception (without_numbers k.tables k.groups k.ports k.held))))) same
    ∙ ap (λ (f : Forwarding). all_sent effects (all_tallied (all_placed t counts) f)) (begins frames) in
    way_is heard p packet work t groups ports items counts effects mid.ports mid.held.next before after distinct enters is_items is_counts (ap (λ (k : Contents). k.ports) same) (ap (λ (k : Contents). k.held.next) same ∙ next) told here

-- the next id stays where a frame is used
pub used_next : (id : ℕ) (b : HeldFrames) → (used id b).next ≡ b.next
used_next id b = by (is_id id)
  where
    by : (t : Bool) → (if t then record b { places = slice_set b.places (given_since id b) None } else b).next ≡ b.next
    by true = refl
    by false = refl

pub without_used_next : (id : Option ℕ) (b : HeldFrames) → (without_used id b).next ≡ b.next
without_used_next None b = refl
without_used_next (Some id) b = used_next id b

-- frames that fit fewer bytes fit more
pub all_fit : (n : ℕ) (items : List Item) → n ≤ 65485 → AllShort n items → AllShort 65485 items
all_fit n items le short = All-weaker (λ i. length (frame_of i) ≤ n) (λ i. length (frame_of i) ≤ 65485) (λ i h. omega (arith, h, le)) items short
