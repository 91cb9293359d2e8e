use Rattle.std.proofs.Common.{refl}
use Rattle.of_layers.specs.{declared.field.Field.TheVariants.InPort, Fields.row_of}
use Rattle.of_headers.{specs.Presence.all_bits, proofs.PresenceLemmas.fields_or, proofs.PutLemmas.value_put, proofs.PutLemmas.absent_put}
use Rattle.of_headers.proofs.layers.add_ipv6.Goals as goal

pub invariant_of-key : goal.invariant_of-key
unfolding all_bits row_of
invariant_of-key c = record {
  known = fields_or _ _ c.args.key.now.known refl;
  absent = absent_put c.args.key.now _ _ refl (elim [ InPort ↦ refl | _ ↦ refl ]);
}

pub returns : goal.returns
unfolding row_of
returns c = rw (← c.double_at.ensures, ← c.sixteen_at-key.ensures, ← c.sixteen_at-key-2.ensures, ← c.word_at-class.ensures) (value_put c.args.key.now _ _ _ refl (elim [ InPort ↦ record { found = refl; kept = refl } | _ ↦ record { found = refl; kept = refl } ]))
