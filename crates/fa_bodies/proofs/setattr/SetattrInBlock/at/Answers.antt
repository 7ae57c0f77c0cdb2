use Rattle.std.proofs.Common.{arith, refl}
use Rattle.fa_bodies.proofs.setattr.SetattrInBlock.at.Goals as goal

pub returns : goal.returns
returns c = rw (c.from_bits.ensures, c.from_bits_retain.ensures) (omega arith, c.u32_at-valid.result.1.now, c.u32_at-valid.ensures.value, (c.skip-rest.ensures.value.0, c.skip-rest.result.now, c.skip-rest.ensures.value.1, c.skip-rest.ensures.value.2, (omega arith, c.u64_at-fh.result.1.now, c.u64_at-fh.ensures.value, (omega arith, c.u64_at-size.result.1.now, c.u64_at-size.ensures.value, (omega arith, c.u64_at-lock_owner.result.1.now, c.u64_at-lock_owner.ensures.value, (omega arith, c.u64_at-atime.result.1.now, c.u64_at-atime.ensures.value, (omega arith, c.u64_at-mtime.result.1.now, c.u64_at-mtime.ensures.value, (omega arith, c.u64_at-ctime.result.1.now, c.u64_at-ctime.ensures.value, (omega arith, c.u32_at-atimensec.result.1.now, c.u32_at-atimensec.ensures.value, (omega arith, c.u32_at-mtimensec.result.1.now, c.u32_at-mtimensec.ensures.value, (omega arith, c.u32_at-ctimensec.result.1.now, c.u32_at-ctimensec.ensures.value, (omega arith, c.u32_at-mode.result.1.now, c.u32_at-mode.ensures.value, (c.skip-rest-2.ensures.value.0, c.skip-rest-2.result.now, c.skip-rest-2.ensures.value.1, c.skip-rest-2.ensures.value.2, (omega arith, c.u32_at-uid.result.1.now, c.u32_at-uid.ensures.value, (omega arith, c.u32_at-gid.result.1.now, c.u32_at-gid.ensures.value, (c.skip-rest-3.ensures.value.0, c.skip-rest-3.result.now, c.skip-rest-3.ensures.value.1, c.skip-rest-3.ensures.value.2, refl))))))))))))))))
