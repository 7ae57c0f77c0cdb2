use Rattle.std.proofs.Common.{arith, refl}
use Rattle.fa_bodies.proofs.attributes.AttributesBlock.at.Goals as goal

pub returns : goal.returns
returns c = rw c.from_bits.ensures (
  omega arith,
  c.u64_at-ino.result.1.now,
  c.u64_at-ino.ensures.value,
  (
    omega arith,
    c.u64_at-size.result.1.now,
    c.u64_at-size.ensures.value,
    (
      omega arith,
      c.u64_at-blocks.result.1.now,
      c.u64_at-blocks.ensures.value,
      (
        omega arith,
        c.u64_at-atime.result.1.now,
        c.u64_at-atime.ensures.value,
        (
          omega arith,
          c.u64_at-mtime.result.1.now,
          c.u64_at-mtime.ensures.value,
          (
            omega arith,
            c.u64_at-ctime.result.1.now,
            c.u64_at-ctime.ensures.value,
            (
              omega arith,
              c.u32_at-atimensec.result.1.now,
              c.u32_at-atimensec.ensures.value,
              (
                omega arith,
                c.u32_at-mtimensec.result.1.now,
                c.u32_at-mtimensec.ensures.value,
                (
                  omega arith,
                  c.u32_at-ctimensec.result.1.now,
                  c.u32_at-ctimensec.ensures.value,
                  (
                    omega arith,
                    c.u32_at-mode.result.1.now,
                    c.u32_at-mode.ensures.value,
                    (
                      omega arith,
                      c.u32_at-nlink.result.1.now,
                      c.u32_at-nlink.ensures.value,
                      (
                        omega arith,
                        c.u32_at-uid.result.1.now,
                        c.u32_at-uid.ensures.value,
                        (
                          omega arith,
                          c.u32_at-gid.result.1.now,
                          c.u32_at-gid.ensures.value,
                          (
                            omega arith,
                            c.u32_at-rdev.result.1.now,
                            c.u32_at-rdev.ensures.value,
                            (
                              omega arith,
                              c.u32_at-blksize.result.1.now,
                              c.u32_at-blksize.ensures.value,
                              (c.skip-rest.ensures.value.0, c.skip-rest.result.now, c.skip-rest.ensures.value.1, c.skip-rest.ensures.value.2, refl),
                            ),
                          ),
                        ),
                      ),
                    ),
                  ),
                ),
              ),
            ),
          ),
        ),
      ),
    ),
  ),
)
