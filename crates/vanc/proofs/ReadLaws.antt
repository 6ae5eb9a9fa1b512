-- What each way through the code of reading says of the rules, over plain values.
--
-- In order: 17; what the user bytes hold; packs of 5; long packs; the first user byte; the area.
-- Assumes nothing.
use Prim.Native.Nat.{ℕ, zero, suc, ◌+◌, ◌%◌, ◌≤◌, ◌<◌}
use mathlib.Core.Path.{◌≡◌, refl, sym, ap, ◌∙◌, subst}
use mathlib.Core.Bool.{Bool, true, false, cond}
use mathlib.Core.List.{List, [], ◌∷◌, ◌++◌}
use native.Mathlib.Nat.{sub-zero, zero-add}
use native.Mathlib.Omega.{arith}
use Rattle.std.proofs.Common.{Option, Some, None, Result, Ok, Err}
use lib.Dec.{leb}
use lib.ListN.{length, get_or, take, drop, length-append, length-take}
use lib.Seq.{take-take, take_at}
use borrow.Author.Tests.{le-leb, eq-eqb, ne_eqb}
use Rattle.rules.specs.Base.{all_is, sum, Bytes}
use Rattle.rules.specs.Systems.{System, known, system}
use Rattle.rules.specs.Packet.{Packet}
use Rattle.rules.specs.Danc.{string_byte_count, string}
use Rattle.rules.specs.Sheet.{limit, sheet_of}
use Rattle.rules.specs.Blocks.{width, runs, block_sizes, area_size, user_bytes_in}
use Rattle.rules.specs.Packing2.{Opened}
use Rattle.rules.specs.Numbers.{Outcome, listed, refused, packets_in}
use Rattle.rules.specs.Reading.{string_row, first_byte, packets_of_opened, packets_of_user_bytes, packing_found}
use Rattle.rules.specs.Reading.{reading, read_back_of, read, buffer_after}
use Rattle.rules.specs.Demands.{Reads}
use Rattle.rules.specs.Refusals.{Told, tell, told, told_of}
use Rattle.rules.specs.declared.ReadBack.{ReadBack}
use Rattle.rules.specs.declared.Refused.{Refused}
use Rattle.rules.proofs.Basics.{never, take-bytes}
use Rattle.rules.proofs.Long.{long-bytes}
use Rattle.rules.proofs.Strings.{StringOf, string-laid, string-room}
use Rattle.rules.proofs.Blocks.{gather-length, facts-of, known-low, each-system}
use Rattle.rules.proofs.Reading.{reads}
use Rattle.frame.specs.Bytes.{collected, bytes_after}
use Rattle.frame.specs.Systems.{figures_of, figures_found}
use Rattle.frame.specs.declared.Figures.{Figures}
use Rattle.frame.proofs.Laws.{area-is, found_known, found_is, found_none}
use Rattle.sheet.specs.Write.{shown_row, shown, wrote, sheet_after}
use Rattle.sheet.proofs.WriteLaws.{shown-string, words-short}
use Rattle.danc.specs.declared.Validated.{Validated}
use Rattle.danc.specs.Answer.{answer_of, counted}
use Rattle.danc.specs.Validated.{validated, Within}
use Rattle.unpacking1.specs.Open.{Opens, packets_of_fives}
use Rattle.packing2.specs.Unlong.{opened_from}
use Rattle.packing2.proofs.UnlongLaws.{Answer, answer-none, answer-some}
use Rattle.packing2.specs.declared.unlong.Opened.{Opened as Counts}
use Rattle.vanc.specs.declared.reading.Found.{Found}
use Rattle.rules.specs.declared.Refusal.TheVariants.{Buffer}
use Rattle.vanc.specs.Whole.{whole}
use Rattle.vanc.specs.Read.{Back, Shows, Finds, back_of}

-- ---- 17

module _ (sys k : ℕ) (ps : List Packet) (s sheet after : List ℕ) (n : Option ℕ) (e : shown s ≡ listed ps) (short : length s ≤ 9360)
    (w : n ≡ wrote sys s (length sheet)) (a : after ≡ sheet_after sys s sheet) where
  -- the sheet has room
  abbrev roomy : Bool
  roomy = leb (length (sheet_of sys ps)) (length sheet)

  -- the buffer with the sheet in front
  abbrev sheet-in : List ℕ
  sheet-in = sheet_of sys ps ++ drop (length (sheet_of sys ps)) sheet

  -- how many numbers are written
  number_is : n ≡ cond roomy (Some (length (sheet_of sys ps))) None
  unfolding wrote
  number_is = w ∙ rw (e, words-short s ps e short)

  -- the buffer afterwards
  after_is : after ≡ cond roomy sheet-in sheet
  unfolding sheet_after
  after_is = a ∙ rw (e, words-short s ps e short)

  -- nothing is written, since there is no room for it
  pub no_room : n ≡ None → Back sys k sheet (listed ps) (read_back_of 0 0 (refused 17 0)) after
  no_room z = go roomy refl number_is after_is
    where
      go : (t : Bool) → roomy ≡ t → n ≡ cond t (Some (length (sheet_of sys ps))) None → after ≡ cond t sheet-in sheet
          → Back sys k sheet (listed ps) (read_back_of 0 0 (refused 17 0)) after
      go true p m b = absurd (cc)
      go false p m b = record { answer = rw p; buffer = b ∙ rw p }

  -- the sheet is written
  pub all_room : (numbers packets : ℕ) → n ≡ Some numbers → packets ≡ length ps
      → Back sys k sheet (listed ps) (record { number = 0; place = 0; packing = k; packets = packets; numbers = numbers }) after
  all_room numbers packets z q = go roomy refl number_is after_is
    where
      go : (t : Bool) → roomy ≡ t → n ≡ cond t (Some (length (sheet_of sys ps))) None → after ≡ cond t sheet-in sheet
          → Back sys k sheet (listed ps) (record { number = 0; place = 0; packing = k; packets = packets; numbers = numbers }) after
      go true p m b = let y : numbers ≡ length (sheet_of sys ps) = cc in record { answer = rw (q, y, p); buffer = b ∙ rw p }
      go false p m b = absurd (cc)

-- a refusal
pub back-refused : {sys k n i : ℕ} {sheet : List ℕ} {o : Outcome} {r : ReadBack} → o ≡ refused n i → r ≡ read_back_of 0 0 (refused n i)
    → Back sys k sheet o r sheet
back-refused e q = record { answer = q ∙ rw e; buffer = rw e }

-- another name of the same outcome and packing
pub back-of : {sys k j : ℕ} {sheet : List ℕ} {o q : Outcome} {r : ReadBack} {after : List ℕ} → j ≡ k → q ≡ o → Back sys k sheet o r after
    → Back sys j sheet q r after
back-of e f w = record { answer = w.answer ∙ rw (e, f); buffer = w.buffer ∙ rw f }

-- ---- what the user bytes hold

-- the string of no packets is nothing
none-shown : shown [] ≡ listed []
unfolding shown shown_row
none-shown = refl

-- a string that is found is a list's
found-list : (k : ℕ) (f : Found) (us : List ℕ) (o : Outcome) → Finds k o (Ok f) us
    → (ps : List Packet) × (o ≡ listed ps) × (f.string.packets ≡ length ps) × (shown (take f.string.end us) ≡ listed ps)
found-list k f us (listed ps) w =
    let a = w.shows.answer in
    let z : f.string ≡ counted (0 + length ps) (0 + string_byte_count ps) = cc in
    let v : f.string ≡ counted (length ps) (string_byte_count ps) = z ∙ rw (zero-add (length ps), zero-add (string_byte_count ps)) in
    (ps, refl, ap (λ (x : Validated). x.packets) v, ap (λ (x : Validated). shown (take x.end us)) v ∙ w.shows.string ps refl)
found-list k f us (refused n i) w = let a = w.shows.answer in absurd (cc)

-- so its sheet is written, or there is no room for it. The system's number is the sheet's
module _ (sys k : ℕ) (f : Found) (us sheet after : List ℕ) (o : Outcome) (w : Finds k o (Ok f) us) (long : length us ≡ 9360)
    (num : ℕ) (same : num ≡ sys) (n : Option ℕ) (m : n ≡ wrote num (take f.string.end us) (length sheet))
    (a : after ≡ sheet_after num (take f.string.end us) sheet) where
  short-front : length (take f.string.end us) ≤ 9360
  short-front = let l = length-take f.string.end us in omega arith

  m-is : n ≡ wrote sys (take f.string.end us) (length sheet)
  m-is = m ∙ ap (λ (x : ℕ). wrote x (take f.string.end us) (length sheet)) same

  a-is : after ≡ sheet_after sys (take f.string.end us) sheet
  a-is = a ∙ ap (λ (x : ℕ). sheet_after x (take f.string.end us) sheet) same

  pub found-over : (e : Refused) → n ≡ None → e ≡ whole Buffer → Back sys k sheet o (back_of (Err e)) after
  found-over e z q =
      let v = found-list k f us o w in
      let b = no_room sys k v.0 (take f.string.end us) sheet after n v.3 short-front m-is a-is z in
      subst (λ (x : Refused). Back sys k sheet o (back_of (Err x)) after) (sym q) (back-of refl v.1 b)

  pub found-written : (numbers : ℕ) → n ≡ Some numbers
      → Back sys k sheet o (record { number = 0; place = 0; packing = f.packing; packets = f.string.packets; numbers = numbers }) after
  found-written numbers z =
      let v = found-list k f us o w in
      let b = all_room sys k v.0 (take f.string.end us) sheet after n v.3 short-front m-is a-is numbers f.string.packets z v.2 in
      let made =
      λ (x : ℕ).
      Back sys k sheet (listed v.0)
      (record { number = 0; place = 0; packing = x; packets = f.string.packets; numbers = numbers })
      after in
      back-of refl v.1 (subst made (sym w.packing) b)

-- a refusal that is found is given back
pub found-refused : (sys k : ℕ) (e : Refused) (us sheet : List ℕ) (o : Outcome) → Finds k o (Err e) us → Back sys k sheet o (back_of (Err e)) sheet
found-refused sys k e us sheet (listed ps) w = let a = w.shows.answer in absurd (cc)
found-refused sys k e us sheet (refused n i) w =
    let a = w.shows.answer in
    let t : told e ≡ tell n i 0 = cc in
    back-refused refl (ap (λ (x : Told). read_back_of 0 0 (refused x.number x.place)) t)

-- another name of the same outcome
pub shows-of : {o q : Outcome} {r : Result Validated Refused} {us : List ℕ} → q ≡ o → Shows o r us → Shows q r us
shows-of e w = rw e w

-- what one refusal of all shows
pub shows-refused : {n : ℕ} {o : Outcome} {e : Refused} {us : List ℕ} → o ≡ refused n 0 → told e ≡ tell n 0 0 → Shows o (Err e) us
shows-refused {o = o} {e = e} q t = record { answer = ap Err t ∙ rw q; short = λ ps h. never (cc); string = λ ps h. never (cc) }

-- no packets
pub shows-none : {o : Outcome} {us : List ℕ} → o ≡ listed [] → Shows o (Ok (counted 0 0)) us
shows-none {o} {us} q =
    record {
      answer = rw q;
      short = λ ps h. let z : ps ≡ [] = cc in rw z (omega arith);
      string = λ ps h. let z : ps ≡ [] = cc in rw z none-shown;
    }

-- a refusal, and a string, with the packing
pub finds-err : {k : ℕ} {o : Outcome} {e : Refused} {us : List ℕ} → Shows o (Err e) us → Finds k o (Err e) us
finds-err w = record { shows = w; packing = tt }

pub finds-ok : {k j : ℕ} {o : Outcome} {v : Validated} {us : List ℕ} → k ≡ j → Shows o (Ok v) us
    → Finds k o (Ok (record { packing = j; string = v })) us
finds-ok q w = record { shows = w; packing = sym q }

-- ---- packs of 5

-- what opening leaves
pub fives-shown : (y : System) → y.last < 2047 → {o : Outcome} {r : Result Validated Refused} {after : List ℕ} → Opens y o r after → Shows o r after
fives-shown y hm {o} {r} {after} w =
    record {
      answer = w.answer;
      short = λ ps e.
          let v = w.string ps e in
          let l : length (take (string_byte_count ps) after) ≡ string_byte_count ps =
          ap length v.front ∙ string-room v.items ∙ ap string_byte_count v.packets in
          let m : length (take (string_byte_count ps) after) ≤ length after = simp length-take (omega arith) in
          omega arith;
      string = λ ps e.
          let v = w.string ps e in
          ap shown v.front ∙ shown-string y hm v.items v.good ∙ ap listed v.packets;
    }

-- ---- long packs

module _ (y : System) (hm : y.last < 2047) (us : List ℕ) (len room : ℕ) (r : Result Validated Refused) (b : Bytes (take len us))
    (v : told_of r ≡ validated y room (take len us) 0 0) where
  -- the packets of the string
  abbrev walked : Outcome
  walked = packets_in (string_row y room) limit 0 (take len us)

  module _ (ps : List Packet) (e : walked ≡ listed ps) where
    -- they are good items, and then the end
    laid : StringOf y room limit (take len us) ps
    laid = string-laid y room limit 0 (take len us) ps b e

    -- the items' bytes are the packets'
    laid-bytes : length (string laid.items) ≡ string_byte_count ps
    laid-bytes = string-room laid.items ∙ ap string_byte_count laid.packets

    -- which are within the string
    laid-short : string_byte_count ps ≤ length (take len us)
    laid-short =
        let m = ap length laid.whole in
        let n = length-append (string laid.items) laid.tail in
        let k = laid-bytes in
        omega arith

    -- and stand in front
    laid-front : take (string_byte_count ps) us ≡ string laid.items
    laid-front =
        sym (take-take (string_byte_count ps) len us (let l = laid-short in let m = length-take len us in omega arith))
        ∙ ap (take (string_byte_count ps)) laid.whole
        ∙ take_at (string laid.items) laid.tail (string_byte_count ps) laid-bytes

  -- so the answer and the bytes are those of the outcome
  pub long-shown : Shows walked r us
  unfolding validated
  long-shown =
      record {
        answer = v ∙ ap (λ (n : ℕ). answer_of 0 0 (packets_in (string_row y room) n 0 (take len us))) (sub-zero limit);
        short = λ ps e. let l = laid-short ps e in let m = length-take len us in omega arith;
        string = λ ps e. ap shown (laid-front ps e) ∙ shown-string y hm (laid ps e).items (laid ps e).good ∙ ap listed (laid ps e).packets;
      }

-- what opening says: nothing opened
pub long-shut : (y : System) (o : Opened) (us : List ℕ) → Answer o None us → packets_of_opened y o ≡ refused 13 0
long-shut y o us w = ap (packets_of_opened y) (answer-none o us w)

-- or a string
pub long-open : (y : System) (o : Opened) (p : Counts) (us : List ℕ) → Answer o (Some p) us
    → packets_of_opened y o ≡ packets_in (string_row y p.room) limit 0 (take p.bytes us)
long-open y o p us w = ap (packets_of_opened y) (answer-some o p us w).0

-- no longer than the string's room
pub long-len : (o : Opened) (p : Counts) (us : List ℕ) → Answer o (Some p) us → p.bytes ≤ 8928
long-len o p us w = (answer-some o p us w).1

-- the string is bytes, as the user bytes are
pub long-string : (sys : ℕ) → known sys ≡ true → (us : List ℕ) → Bytes us → (p : Counts) (after : List ℕ)
    → Answer (opened_from sys us) (Some p) after → Bytes (take p.bytes after)
long-string sys k us b p after w =
    long-bytes (block_sizes (system sys)) (take (sum (block_sizes (system sys))) us) (take p.bytes after) p.room (facts-of sys k).roomy
    (take-bytes (sum (block_sizes (system sys))) us b) (answer-some (opened_from sys us) p after w).0

-- the bounds of validation
pub long-within : (len : ℕ) → len ≤ 8928 → Within len 0 0
unfolding limit
long-within len h = record { short = omega arith; place = omega arith; packet = omega arith }

-- ---- the first user byte

-- what is used of a known system
pub record Frame (sys : ℕ) : Type 0 where
  pub low : sys ≤ 3
  pub last : (system sys).last < 2047
  pub some : 0 < sum (block_sizes (system sys))
  pub most : sum (block_sizes (system sys)) ≤ 9360
  pub fifths : sum (block_sizes (system sys)) % 5 ≡ 0

-- a known system has user bytes, and no more than the array
bytes-known : (sys : ℕ) → known sys ≡ true → (0 < sum (block_sizes (system sys))) × (sum (block_sizes (system sys)) ≤ 9360)
unfolding runs width
bytes-known =
    each-system (λ (y : System) (k : Bool). k ≡ true → (0 < sum (block_sizes y)) × (sum (block_sizes y) ≤ 9360))
    (λ e. (omega arith, omega arith))
    (λ e. (omega arith, omega arith))
    (λ e. (omega arith, omega arith))
    (λ e. never (cc))

-- a known system has all of it
pub frame-of : (sys : ℕ) → known sys ≡ true → Frame sys
frame-of sys k =
    let f = facts-of sys k in
    let b = bytes-known sys k in
    let w = f.whole in
    record { low = known-low sys k; last = f.last; some = b.0; most = b.1; fifths = omega arith }

-- the first byte of a front is the first byte
first-is : (us : List ℕ) (total : ℕ) → 0 < total → 0 < length us → first_byte (take total us) ≡ get_or us 0 0
first-is [] total h l = absurd (omega arith)
first-is (x ∷ us) zero h l = absurd (omega arith)
first-is (x ∷ us) (suc total) h l = refl

module _ (sys total : ℕ) (us : List ℕ) (known : known sys ≡ true) (is : total ≡ sum (block_sizes (system sys))) (long : length us ≡ 9360) where
  -- the system
  abbrev y : System
  y = system sys

  -- its blocks
  abbrev sizes : List ℕ
  sizes = block_sizes y

  -- its user bytes
  abbrev ub : List ℕ
  ub = take total us

  -- what is used of it
  f : Frame sys
  f = frame-of sys known

  -- the first user byte
  first : first_byte ub ≡ get_or us 0 0
  first = let s = f.some in first-is us total (omega arith) (omega arith)

  -- the same, as it was read
  here : (b : ℕ) → get_or us 0 0 ≡ b → first_byte ub ≡ b
  here b e = first ∙ e

  -- E1h
  pub users-fives : get_or us 0 0 ≡ 0xE1 → (packing_found ub ≡ 1) × (packets_of_user_bytes y sizes ub ≡ packets_of_fives y us total)
  unfolding packets_of_user_bytes packets_of_fives
  users-fives e =
      let m = f.most in
      let v = f.fifths in
      let z : total % 5 ≡ 0 = omega arith in
      (rw (here 0xE1 e), rw (here 0xE1 e, le-leb total (length us) (omega arith), eq-eqb (total % 5) 0 z))

  pub fives-found : get_or us 0 0 ≡ 0xE1 → {last : ℕ} → last ≡ y.last → {r : Result Validated Refused} {after : List ℕ}
      → ((z : System) → z.last ≡ last → Opens z (packets_of_fives z us total) r after) → Shows (packets_of_user_bytes y sizes ub) r after
  fives-found e q w = shows-of (users-fives e).1 (fives-shown y f.last (w y (sym q)))

  -- E3h
  pub users-long : get_or us 0 0 ≡ 0xE3 → (packing_found ub ≡ 2) × (packets_of_user_bytes y sizes ub ≡ packets_of_opened y (opened_from sys us))
  unfolding packets_of_user_bytes
  users-long e = (rw (here 0xE3 e), rw (here 0xE3 e, is))

  -- FFh, and so is every other
  pub users-fill : get_or us 0 0 ≡ 0xFF → all_is 0xFF ub ≡ true → (packing_found ub ≡ 0) × (packets_of_user_bytes y sizes ub ≡ listed [])
  unfolding packets_of_user_bytes
  users-fill e a = (rw (here 0xFF e), rw (here 0xFF e, a))

  -- FFh, and another is not
  pub users-mixed : get_or us 0 0 ≡ 0xFF → all_is 0xFF ub ≡ false → packets_of_user_bytes y sizes ub ≡ refused 13 0
  unfolding packets_of_user_bytes
  users-mixed e a = rw (here 0xFF e, a)

  -- any other
  pub users-other : (get_or us 0 0 ≡ 0xE1 → ⊥) → (get_or us 0 0 ≡ 0xE3 → ⊥) → (get_or us 0 0 ≡ 0xFF → ⊥)
      → packets_of_user_bytes y sizes ub ≡ refused 13 0
  unfolding packets_of_user_bytes
  users-other a b c = rw (first, ne_eqb (get_or us 0 0) 0xE1 a, ne_eqb (get_or us 0 0) 0xE3 b, ne_eqb (get_or us 0 0) 0xFF c)

-- ---- the area

-- from what the code holds: the figures that were found, and the area's numbers, which are bytes
module _ (sys : ℕ) (area : List ℕ) (b : Bytes area) where
  -- 3
  pub unknown-reads : {sheet : List ℕ} {r : ReadBack} → None ≡ figures_found sys → r ≡ read_back_of 0 0 (refused 3 0)
      → Reads sys area sheet r sheet
  unfolding read buffer_after reading
  unknown-reads {sheet} {r} n q =
      let k = found_none sys n in
      reads sys area sheet r sheet b (q ∙ rw k) (rw k)

  module _ {x : Figures} (found : Some x ≡ figures_found sys) where
    -- the system is known, and the figures are its own
    here-known : known sys ≡ true
    here-known = found_known sys x found

    is : x ≡ figures_of sys
    is = found_is sys x found

    -- 4
    pub other-reads : {sheet : List ℕ} {r : ReadBack} → (length area ≡ x.area → ⊥) → r ≡ read_back_of 0 0 (refused 4 0)
        → Reads sys area sheet r sheet
    unfolding read buffer_after reading
    other-reads {sheet} {r} n q =
        let l = ne_eqb (length area) (area_size (system sys)) (λ e. n (e ∙ sym (area-is sys x is))) in
        reads sys area sheet r sheet b (q ∙ rw (here-known, l)) (rw (here-known, l))

    -- the area is the system's own
    module _ (own : length area ≡ x.area) {total : ℕ} (count : total ≡ collected sys area) where
      -- so its length is right
      own-area : length area ≡ area_size (system sys)
      own-area = own ∙ area-is sys x is

      -- and as many user bytes were taken out as it has
      pub own-total : total ≡ sum (block_sizes (system sys))
      unfolding collected
      own-total = count ∙ rw (here-known, eq-eqb (length area) (area_size (system sys)) own-area)

      module _ (before : List ℕ) {us : List ℕ} (out : us ≡ bytes_after sys area before) where
        -- which are these
        users : take total us ≡ user_bytes_in (system sys) area
        unfolding bytes_after
        users =
            let l = gather-length (area_size (system sys)) (runs (system sys)) area (facts-of sys here-known).within own-area in
            ap (take total) (out ∙ rw (here-known, eq-eqb (length area) (area_size (system sys)) own-area))
            ∙ take_at (user_bytes_in (system sys) area) (drop (sum (block_sizes (system sys))) before) total (l ∙ sym own-total)

        -- 13 and on
        pub own-reads : {sheet after : List ℕ} {r : ReadBack}
            → Back sys (packing_found (take total us)) sheet (packets_of_user_bytes (system sys) (block_sizes (system sys)) (take total us)) r after
            → Reads sys area sheet r after
        unfolding read buffer_after reading
        own-reads {sheet} {after} {r} w =
            let e = eq-eqb (length area) (area_size (system sys)) own-area in
            reads sys area sheet r after b (w.answer ∙ rw (here-known, e, users)) (w.buffer ∙ rw (here-known, e, users))
