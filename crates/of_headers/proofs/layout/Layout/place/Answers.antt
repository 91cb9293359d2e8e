use Rattle.std.proofs.Common.{◌≡◌, Option, [], ◌∷◌, ◌+◌, ◌*◌, ◌^◌, ◌%◌, ◌<◌, ◌≤◌, length, drop, ap, ◌∙◌, arith}
use Rattle.std.{specs.Option.option_or, proofs.lemmas.List.length-drop}
use Rattle.of_layers.specs.{declared.place.Place.Place, Fields.number_of, Layers.cells_in, Layers.ether_type, Layers.tag_cells, Layers.body_cells, Reading.word, Reading.six, Reading.tags_of}
use Rattle.of_layers.specs.Looking.{locate_at}
use Rattle.of_headers.proofs.PlaceLemmas.{place_frame, no_tags, some_tags, width_body, behind_at}
use Rattle.of_headers.{specs.Places.width, proofs.KeyLemmas.StandsAt, proofs.KeyLemmas.stands, proofs.KeyLemmas.packet_of}
use Rattle.of_headers.proofs.layout.Layout.place.Goals.{then-self-eq0, else-self-eq0}
use Rattle.of_headers.proofs.layout.Layout.place.Goals as goal

pub returns : goal.returns
returns c = λ s long l e.
    let at : StandsAt s c.args.self.now = stands s c.args.self.now long e in
    let room : 12 + 4 * c.args.self.now.tags + 2 ≤ length s = at.room in
    let first : (c.args.self.now.tags * 32 % 2 ^ 64 + 96) % 2 ^ 64 ≡ 96 + 32 * c.args.self.now.tags = omega arith in
    let second : (c.args.self.now.tags * 32 % 2 ^ 64 + 112) % 2 ^ 64 ≡ 112 + 32 * c.args.self.now.tags = omega arith in
    let wide : 112 + 32 * c.args.self.now.tags + width (body_cells (packet_of s c.args.self.now.tags)) < 2 ^ 64 =
    omega (arith, width_body (word s (12 + 4 * c.args.self.now.tags)) (drop (12 + 4 * c.args.self.now.tags + 2) s), length-drop (12 + 4 * c.args.self.now.tags + 2) s) in
    let small : 8 * length (drop (12 + 4 * c.args.self.now.tags + 2) s) < 2 ^ 64 = omega (arith, length-drop (12 + 4 * c.args.self.now.tags + 2) s) in
    let tag : c.if-self-eq0.tag ≡ locate_at 96 (number_of c.args.field) (tag_cells (tags_of c.args.self.now.tags (drop 12 s))) =
    elim c.if-self-eq0.branch [
      | then-self-eq0 w ↦ w.tag-is ∙ no_tags c.args.self.now.tags (number_of c.args.field) (drop 12 s) w.if-self-eq0.true
      | else-self-eq0 w ↦ w.tag-is ∙ some_tags c.args.self.now.tags (number_of c.args.field) (drop 12 s) w.tag_place-tag.result (omega arith) (w.tag_place-tag.ensures (drop 12 s))
    ] in
    let type = behind_at ((c.args.self.now.tags * 32 % 2 ^ 64 + 96) % 2 ^ 64) (96 + 32 * c.args.self.now.tags) (number_of c.args.field) (cells_in ether_type (word s (12 + 4 * c.args.self.now.tags) ∷ [])) c.behind.result first (omega arith)
    (λ h. c.behind.ensures (number_of c.args.field) (cells_in ether_type (word s (12 + 4 * c.args.self.now.tags) ∷ [])) h (c.type_place.ensures (word s (12 + 4 * c.args.self.now.tags)))) in
    let body = behind_at ((c.args.self.now.tags * 32 % 2 ^ 64 + 112) % 2 ^ 64) (112 + 32 * c.args.self.now.tags) (number_of c.args.field) (body_cells (packet_of s c.args.self.now.tags)) c.behind-2.result second wide
    (λ h. c.behind-2.ensures (number_of c.args.field) (body_cells (packet_of s c.args.self.now.tags)) h (c.place.ensures (word s (12 + 4 * c.args.self.now.tags)) (drop (12 + 4 * c.args.self.now.tags + 2) s) small at.network)) in
    c.or-3.ensures
    ∙ ap (λ (o : Option Place). option_or o c.behind-2.result) (c.or-2.ensures ∙ ap (λ (o : Option Place). option_or o c.behind.result) c.or.ensures)
    ∙ place_frame c.args.self.now.tags (number_of c.args.field) s c.address_place.result c.if-self-eq0.tag c.behind.result c.behind-2.result at.tags
    (c.address_place.ensures (six s 0) (six s 6)) tag type body
