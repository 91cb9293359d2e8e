use Rattle.std.proofs.Common.{◌≡◌, ℕ, ◌+◌, List, ◌++◌, refl, ap, ◌∙◌, arith}
use Rattle.byteorder.specs.Endian.{big_bytes}
use Rattle.of_messages.specs.{declared.message.Message.TheVariants.RoleRequest as IsRoleRequest, declared.role.RoleRequest.RoleRequest}
use Rattle.of_messages.specs.declared.role.RoleRequest.TheVariants.{NoChange}
use Rattle.of_laws.{specs.Grammar.role_cells, proofs.Places.size, proofs.Written.fields_written, proofs.Written.three}
use Rattle.of_laws.proofs.small.write_role_request.Goals as goal

total : (r : RoleRequest) → 16 ≡ size (role_cells r) + 0
total NoChange = refl
total other = refl

pub returns : goal.returns
returns c =
    let fields = three _ _ _ _ (big_bytes 4 c.role_numbers-role.result.0) (big_bytes 4 0) (big_bytes 8 c.role_numbers-role.result.1) c.in_ok-put_u32.ensures c.in_ok-put_u32-2.ensures c.in_ok-put_u64.ensures in
    fields_written (IsRoleRequest c.args.request) c.args.xid 16 _ _ c.in_ok-out.ensures (c.new.ensures ∙ fields ∙ ap (λ (x : List ℕ). c.in_ok-out.out.items ++ x) c.role_numbers-role.ensures.text) refl
    (record { total = total c.args.request; short = omega arith; xid_fits = omega arith; fits = c.role_numbers-role.ensures.fits; behind = refl; valid = tt })
