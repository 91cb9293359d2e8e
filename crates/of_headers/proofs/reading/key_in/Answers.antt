use Rattle.std.proofs.Common.{◌≡◌, ◌+◌, ◌*◌, ◌≤◌, length, arith}
use Rattle.of_headers.proofs.KeyLemmas.{stands, whole_tagged, whole_untagged}
use Rattle.of_headers.proofs.reading.key_in.Goals as goal

pub overflow_mul-at : goal.overflow_mul-at
overflow_mul-at c = let room : 12 + 4 * c.args.layout.tags + 2 ≤ length c.args.frame.now = (stands c.args.frame.now c.args.layout c.requires.long c.requires.places).room in omega arith

pub overflow_add-at : goal.overflow_add-at
overflow_add-at c = let room : 12 + 4 * c.args.layout.tags + 2 ≤ length c.args.frame.now = (stands c.args.frame.now c.args.layout c.requires.long c.requires.places).room in omega arith

pub word_at-requires : goal.word_at-requires
word_at-requires c = (stands c.args.frame.now c.args.layout c.requires.long c.requires.places).room

pub overflow_add-at-2 : goal.overflow_add-at-2
overflow_add-at-2 c = let room : 12 + 4 * c.args.layout.tags + 2 ≤ length c.args.frame.now = (stands c.args.frame.now c.args.layout c.requires.long c.requires.places).room in omega arith

pub rest_from-requires : goal.rest_from-requires
rest_from-requires c = (stands c.args.frame.now c.args.layout c.requires.long c.requires.places).room

pub add_body-requires : goal.add_body-requires
add_body-requires c = rw (c.word_at.ensures, c.rest_from.ensures) (stands c.args.frame.now c.args.layout c.requires.long c.requires.places).network

pub add_tag-requires : goal.add_tag-requires
add_tag-requires c = let room : 12 + 4 * c.args.layout.tags + 2 ≤ length c.args.frame.now = (stands c.args.frame.now c.args.layout c.requires.long c.requires.places).room in omega arith

pub returns-then-layout-gt0 : goal.returns-then-layout-gt0
returns-then-layout-gt0 c =
    whole_tagged c.args.frame.now c.args.layout.tags c.args.in_port c.args.metadata c.empty-key.result c.add_body.new.key c.add_ends.new.key c.add_tag.new.key
    (stands c.args.frame.now c.args.layout c.requires.long c.requires.places).tags c.if-layout-gt0.true
    c.empty-key.ensures (λ g. rw (c.word_at.ensures, c.rest_from.ensures) at (c.add_body.ensures g)) c.add_ends.ensures c.add_tag.ensures

pub returns-else-layout-gt0 : goal.returns-else-layout-gt0
returns-else-layout-gt0 c =
    let none : c.args.layout.tags ≡ 0 = omega arith in
    whole_untagged c.args.frame.now c.args.layout.tags c.args.in_port c.args.metadata c.empty-key.result c.add_body.new.key c.add_ends.new.key
    (stands c.args.frame.now c.args.layout c.requires.long c.requires.places).tags none
    c.empty-key.ensures (λ g. rw (c.word_at.ensures, c.rest_from.ensures) at (c.add_body.ensures g)) c.add_ends.ensures
