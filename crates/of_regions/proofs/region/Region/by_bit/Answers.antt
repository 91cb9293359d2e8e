use Rattle.std.proofs.Common.{◌≡◌, Some, true, false}
use Rattle.of_layers.specs.Fields.{ones_of}
use Rattle.of_headers.specs.FieldMap.{value}
use Rattle.of_oxm.specs.{Masks.mask_at, Relations.bits_looked_at}
use Rattle.of_regions.proofs.LearningLemmas.{known_high, known_low, part_has, part_lacks, parts_all, parts_apart, parts_within, under_of}
use Rattle.of_regions.specs.{Dividing.AreWithout, Known.is_known_by, Known.rule_in, Meeting.is_apart, Meeting.is_settled}
use Rattle.of_regions.proofs.DividingLemmas.{crossing, some_left}
use Rattle.of_regions.proofs.region.Region.by_bit.Goals as goal

pub one_of-bit-requires : goal.one_of-bit-requires
one_of-bit-requires c =
    let e = c.args.e.now in
    let w : AreWithout (bits_looked_at e) c.args.mask c.without.result = rw c.bits_of.ensures at c.without.ensures in
    let unsettled : is_settled e (Some c.args.mask) (Some c.args.known) ≡ false = rw (c.requires.mask, c.requires.known) at c.requires.crossed.unsettled in
    let near : is_apart e (Some c.args.mask) (Some c.args.known) ≡ false = rw (c.requires.mask, c.requires.known) at c.requires.crossed.near in
    some_left e c.args.mask c.args.known c.without.result c.requires.condition w unsettled near

pub learned-requires : goal.learned-requires
learned-requires c =
    let e = c.args.e.now in
    let w : AreWithout (bits_looked_at e) c.args.mask c.without.result = rw c.bits_of.ensures at c.without.ensures in
    let x = crossing e c.args.mask c.args.known c.without.result c.one_of-bit.result c.requires.condition w c.one_of-bit.ensures in
    known_high (ones_of e.field) (rule_in c.args.self.shape c.args.self.tagging e.field) c.args.mask c.args.known c.one_of-bit.result (rw (c.requires.mask, c.requires.known) at (c.args.self.each e.field)) x.within x.new

pub learned-requires-2 : goal.learned-requires-2
learned-requires-2 c =
    let e = c.args.e.now in
    let w : AreWithout (bits_looked_at e) c.args.mask c.without.result = rw c.bits_of.ensures at c.without.ensures in
    let x = crossing e c.args.mask c.args.known c.without.result c.one_of-bit.result c.requires.condition w c.one_of-bit.ensures in
    known_low (ones_of e.field) (rule_in c.args.self.shape c.args.self.tagging e.field) c.args.mask c.args.known c.one_of-bit.result (rw (c.requires.mask, c.requires.known) at (c.args.self.each e.field)) x.within x.new

pub returns-clause-within : goal.returns-clause-within
returns-clause-within c =
    let e = c.args.e.now in
    let w : AreWithout (bits_looked_at e) c.args.mask c.without.result = rw c.bits_of.ensures at c.without.ensures in
    let x = crossing e c.args.mask c.args.known c.without.result c.one_of-bit.result c.requires.condition w c.one_of-bit.ensures in
    let own : is_known_by (ones_of e.field) (rule_in c.args.self.shape c.args.self.tagging e.field) (Some c.args.mask) (Some c.args.known) ≡ true = rw (c.requires.mask, c.requires.known) at (c.args.self.each e.field) in
    parts_within (mask_at c.args.self.masks) (value c.args.self.known) e.field c.args.mask c.args.known c.one_of-bit.ensures.place c.one_of-bit.result c.requires.mask c.requires.known (under_of _ _ c.args.mask c.args.known own) x.new c.one_of-bit.ensures.is
    (mask_at c.learned.result.masks) (value c.learned.result.known) c.learned.ensures.masks c.learned.ensures.known (mask_at c.learned-2.result.masks) (value c.learned-2.result.known) c.learned-2.ensures.masks c.learned-2.ensures.known

pub returns-clause-all : goal.returns-clause-all
returns-clause-all c =
    let e = c.args.e.now in
    let w : AreWithout (bits_looked_at e) c.args.mask c.without.result = rw c.bits_of.ensures at c.without.ensures in
    let x = crossing e c.args.mask c.args.known c.without.result c.one_of-bit.result c.requires.condition w c.one_of-bit.ensures in
    let own : is_known_by (ones_of e.field) (rule_in c.args.self.shape c.args.self.tagging e.field) (Some c.args.mask) (Some c.args.known) ≡ true = rw (c.requires.mask, c.requires.known) at (c.args.self.each e.field) in
    parts_all (mask_at c.args.self.masks) (value c.args.self.known) e.field c.args.mask c.args.known c.one_of-bit.ensures.place c.one_of-bit.result c.requires.mask c.requires.known (under_of _ _ c.args.mask c.args.known own) x.new c.one_of-bit.ensures.is
    (mask_at c.learned.result.masks) (value c.learned.result.known) c.learned.ensures.masks c.learned.ensures.known (mask_at c.learned-2.result.masks) (value c.learned-2.result.known) c.learned-2.ensures.masks c.learned-2.ensures.known

pub returns-clause-apart : goal.returns-clause-apart
returns-clause-apart c =
    let e = c.args.e.now in
    let w : AreWithout (bits_looked_at e) c.args.mask c.without.result = rw c.bits_of.ensures at c.without.ensures in
    let x = crossing e c.args.mask c.args.known c.without.result c.one_of-bit.result c.requires.condition w c.one_of-bit.ensures in
    let own : is_known_by (ones_of e.field) (rule_in c.args.self.shape c.args.self.tagging e.field) (Some c.args.mask) (Some c.args.known) ≡ true = rw (c.requires.mask, c.requires.known) at (c.args.self.each e.field) in
    parts_apart (mask_at c.args.self.masks) (value c.args.self.known) e.field c.args.mask c.args.known c.one_of-bit.ensures.place c.one_of-bit.result c.requires.mask c.requires.known (under_of _ _ c.args.mask c.args.known own) x.new c.one_of-bit.ensures.is
    (mask_at c.learned.result.masks) (value c.learned.result.known) c.learned.ensures.masks c.learned.ensures.known (mask_at c.learned-2.result.masks) (value c.learned-2.result.known) c.learned-2.ensures.masks c.learned-2.ensures.known

pub returns-clause-bit : goal.returns-clause-bit
returns-clause-bit c =
    let e = c.args.e.now in
    let w : AreWithout (bits_looked_at e) c.args.mask c.without.result = rw c.bits_of.ensures at c.without.ensures in
    let x = crossing e c.args.mask c.args.known c.without.result c.one_of-bit.result c.requires.condition w c.one_of-bit.ensures in
    let own : is_known_by (ones_of e.field) (rule_in c.args.self.shape c.args.self.tagging e.field) (Some c.args.mask) (Some c.args.known) ≡ true = rw (c.requires.mask, c.requires.known) at (c.args.self.each e.field) in
    record {
      bit = c.one_of-bit.result;
      looked_at = x.looked_at;
      set = part_has (mask_at c.args.self.masks) (value c.args.self.known) e.field c.args.mask c.args.known c.one_of-bit.ensures.place c.one_of-bit.result c.requires.mask c.requires.known (under_of _ _ c.args.mask c.args.known own) x.new c.one_of-bit.ensures.is
          (mask_at c.learned.result.masks) (value c.learned.result.known) c.learned.ensures.masks c.learned.ensures.known (mask_at c.learned-2.result.masks) (value c.learned-2.result.known) c.learned-2.ensures.masks c.learned-2.ensures.known;
      clear = part_lacks (mask_at c.args.self.masks) (value c.args.self.known) e.field c.args.mask c.args.known c.one_of-bit.ensures.place c.one_of-bit.result c.requires.mask c.requires.known (under_of _ _ c.args.mask c.args.known own) x.new c.one_of-bit.ensures.is
          (mask_at c.learned.result.masks) (value c.learned.result.known) c.learned.ensures.masks c.learned.ensures.known (mask_at c.learned-2.result.masks) (value c.learned-2.result.known) c.learned-2.ensures.masks c.learned-2.ensures.known;
    }
