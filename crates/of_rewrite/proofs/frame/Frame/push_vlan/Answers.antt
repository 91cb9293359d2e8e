use Rattle.std.proofs.Common.{◌≡◌, ap, ◌∙◌, subst, true, List, ℕ, length, ◌+◌, ◌/◌, ◌%◌, ◌^◌, ◌<◌, ◌≤◌, arith, rules}
use Rattle.of_layers.specs.{Reading.layers_of, Reading.is_tag_type, WellFormed.AreBytes}
use Rattle.of_headers.specs.Tags.{pushed}
use Rattle.of_rewrite.{specs.Tagging.control_in, proofs.KeptPlaces.tags_room, proofs.TagPut.four, proofs.TagPut.push_is, proofs.TagPut.tagged, proofs.TagFrames.Pushed, proofs.TagFrames.tag_pushed}
use Rattle.of_rewrite.proofs.frame.Frame.push_vlan.Goals as goal

-- the frame `old`, whose bytes `read` are looked at, once there is room for a tag in `before`
put : (type control : ℕ) (old before read looked tag new : List ℕ) → before ≡ old → read ≡ before → looked ≡ before → 14 ≤ length old → AreBytes read → type < 65536 → control < 65536 → is_tag_type type ≡ true →
    control ≡ control_in looked → tag ≡ four (type / 256) (type % 256) (control / 256) (control % 256) → new ≡ tagged tag before → (layers_of new ≡ pushed type (layers_of old)) × Pushed type old new
put type control old before read looked tag new same v w long bytes small low t e tag_is is =
    let all : AreBytes old = subst AreBytes (v ∙ same) bytes in
    let control_is : control ≡ control_in old = e ∙ ap control_in (w ∙ same) in
    let new_is : new ≡ tagged (four (type / 256) (type % 256) (control / 256) (control % 256)) old = is ∙ ap (tagged tag) same ∙ ap (λ (x : List ℕ). tagged x old) tag_is in
    (push_is type control old new long t control_is new_is, tag_pushed type control old new long all small low t control_is new_is)

pub returns : goal.returns
returns c =
    let long : 14 ≤ length c.args.self.now = rw (← c.self.view_is) c.self.invariant.0 in
    let p = put c.args.tpid c.control_of-control.result c.args.self.now c.stay_countable.new.bytes.items c.deref.result.now c.deref-2.result.now c.tag_bytes-tag.result c.insert_tag.new.bytes.items (c.stay_countable.ensures.items ∙ c.self.view_is) c.deref.ensures.value c.deref-2.ensures.value long c.all_bytes.ensures (omega arith) (omega arith) c.requires c.control_of-control.ensures c.tag_bytes-tag.ensures c.in_ok-insert_tag.ensures.ok in
    record { layers = p.0; ok = p.1.frame; length = p.1.long; err = search rules }

pub invariant_of-self-2 : goal.invariant_of-self-2
invariant_of-self-2 c =
    let s : List ℕ = c.self.inside.bytes.items in
    let p = put c.args.tpid c.control_of-control.result c.self.inside.bytes.items c.stay_countable.new.bytes.items c.deref.result.now c.deref-2.result.now c.tag_bytes-tag.result c.insert_tag.new.bytes.items c.stay_countable.ensures.items c.deref.ensures.value c.deref-2.ensures.value c.self.invariant.0 c.all_bytes.ensures (omega arith) (omega arith) c.requires c.control_of-control.ensures c.tag_bytes-tag.ensures c.in_ok-insert_tag.ensures.ok in
    let bytes : AreBytes s = subst AreBytes (c.deref.ensures.value ∙ c.stay_countable.ensures.items) c.all_bytes.ensures in
    let longer : length c.insert_tag.new.bytes.items ≡ length c.self.inside.bytes.items + 4 = p.1.long in
    let short : length c.stay_countable.new.bytes.items + 4 < 2 ^ 61 = c.in_ok-stay_countable.ensures.short in
    let same : length c.stay_countable.new.bytes.items ≡ length c.self.inside.bytes.items = ap length c.stay_countable.ensures.items in
    let long : 14 ≤ length c.self.inside.bytes.items = c.self.invariant.0 in (
      omega (arith, longer, long),
      omega (arith, longer, short, same),
      c.pushed-self-inside.ensures.known c.args.tpid s c.insert_tag.new.bytes.items (tags_room s bytes c.self.invariant.0 c.self.invariant.1) c.self.invariant.2 p.0,
    )
