-- Where the string fits, the rows laid are the system's blocks; elsewhere nothing is written. Assumes nothing.
use Rattle.std.proofs.Common.{refl, sym, arith}
use Rattle.rules.proofs.Basics.{never}
use Rattle.packing2.proofs.LongLaws.{found_rows, found_none, fits-none, fits-over, fits-other, fits_in, after_kept, after-laid}
use Rattle.packing2.proofs.long.lay_long.Goals as goal

pub returns-in_default : goal.returns-in_default
returns-in_default c =
    let z = c.args in
    let f = fits-none z.system z.len z.area.now (found_none z.system c.in_default.ensures) in
    record { value = sym f; area_after = λ _. after_kept z.system z.len _ _ f; area_unchanged = λ _. refl }

pub overflow_mul-rows : goal.overflow_mul-rows
overflow_mul-rows c = let r = found_rows _ _ c.in-Some.ensures in omega arith

pub returns-then-rows-len : goal.returns-then-rows-len
returns-then-rows-len c =
    let z = c.args in
    let r = found_rows _ _ c.in-Some.ensures in
    let f = fits-over z.system z.len c.in-Some.rows z.area.now r.is (omega arith) in
    record { value = sym f; area_after = λ _. after_kept z.system z.len _ _ f; area_unchanged = λ _. refl }

pub overflow_mul-rows-2 : goal.overflow_mul-rows-2
overflow_mul-rows-2 c = let r = found_rows _ _ c.in-Some.ensures in omega arith

pub returns-then-area-rows : goal.returns-then-area-rows
returns-then-area-rows c =
    let z = c.args in
    let r = found_rows _ _ c.in-Some.ensures in
    let f = fits-other z.system z.len c.in-Some.rows z.area.now r.is (λ q. omega arith) in
    record { value = sym f; area_after = λ _. after_kept z.system z.len _ _ f; area_unchanged = λ _. refl }

pub lay_rows-requires : goal.lay_rows-requires
lay_rows-requires c = let r = found_rows _ _ c.in-Some.ensures in (omega arith, omega arith, omega arith)

pub returns : goal.returns
returns c =
    let z = c.args in
    let rows = c.in-Some.rows in
    let r = found_rows _ _ c.in-Some.ensures in
    let f = fits_in z.system z.len rows z.area.now r.is r.some (omega arith) (omega arith) in record {
      value = sym f;
      area_after = after-laid z.system z.len rows z.area.now r.is _ _ f c.lay_rows.ensures;
      area_unchanged = λ n. never (cc);
    }
