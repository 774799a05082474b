-- What is read as a fault is a line of the language that is one, and each such line is read so.
use Rattle.std.proofs.Common.{◌≡◌, ℕ, true, false, Bool, eqb, ltb, Option, Some, None, List, [], ◌∷◌, get_or, refl, sym, ◌∙◌, ap, subst}
use Rattle.std.specs.Prelude.{IfSome, IfNone, if◌then◌else◌}
use Rattle.std.specs.Str.{bytes_eq}
use Rattle.model_commands.specs.Commands.{out_length_of}
use Rattle.ram_text.specs.ScriptWords.{words_of, without_return}
use Rattle.ram_text.specs.ScriptReading.{◌>>=◌, only_word, first_number, only_number, fate_of, form_of, press_of, power_of, fail_of, wear_of, cut_of, tick_of, scrub_of, command_of, command_block_of, payload_of, line_by, line_of, reading_of}
use Rattle.ram_text.specs.Faults.{IsFault, IsFaultWord, fault_by, fault_of, fault_in}
use Rattle.ram_text.specs.declared.script.Line.{Line}
use Rattle.ram_text.specs.declared.script.Line.TheVariants.{Empty, Press, Power, Fail, Wear, Cut, Tick, Scrub, Command}
use Rattle.ram_text.specs.declared.script.Form.{Form}
use Rattle.ram_text.specs.declared.script.Form.TheVariants as forms
use Rattle.ram_text.proofs.ScriptReadings.{bind_some, tested_some}
use Rattle.ram_text.proofs.ReadsBy.{some_same, pair_same}
use Rattle.ram_text.proofs.Forms.{alone_found, line_found, line_given}

-- ---- which of the forms are faults

is_fail : (words : List (List ℕ)) (line : Line) → fail_of words ≡ Some line → IsFault line
unfolding fail_of
is_fail words line h =
    let block = bind_some (only_number words) _ line h in
    subst IsFault (some_same (Fail block.0) line block.2) tt

is_wear : (words : List (List ℕ)) (line : Line) → wear_of words ≡ Some line → IsFault line
unfolding wear_of
is_wear words line h =
    let block = bind_some (first_number words) _ line h in
    let n = bind_some (only_number block.0.1) _ line block.2 in
    let t = tested_some (ltb 0 n.0) (Wear block.0.0 n.0) line n.2 in
    subst IsFault t.1 tt

is_cut : (words : List (List ℕ)) (line : Line) → cut_of words ≡ Some line → IsFault line
unfolding cut_of
is_cut words line h =
    let n = bind_some (first_number words) _ line h in
    let word = bind_some (only_word n.0.1) _ line n.2 in
    let fate = bind_some (fate_of word.0) _ line word.2 in
    let t = tested_some (ltb 0 n.0.0) (Cut n.0.0 fate.0) line fate.2 in
    subst IsFault t.1 tt

no_press : (words : List (List ℕ)) (line : Line) → press_of words ≡ Some line → ¬ IsFault line
unfolding press_of
no_press words line h fault =
    let zones = bind_some (first_number words) _ line h in
    let scale = bind_some (first_number zones.0.1) _ line zones.2 in
    let psa = bind_some (only_number scale.0.1) _ line scale.2 in
    subst IsFault (sym (some_same (Press zones.0.0 scale.0.0 psa.0) line psa.2)) fault

no_power : (words : List (List ℕ)) (line : Line) → power_of words ≡ Some line → ¬ IsFault line
unfolding power_of
no_power [] line h fault = subst IsFault (sym (some_same Power line h)) fault
no_power (word ∷ words) line h fault = cc

no_tick : (words : List (List ℕ)) (line : Line) → tick_of words ≡ Some line → ¬ IsFault line
unfolding tick_of
no_tick [] line h fault = subst IsFault (sym (some_same Tick line h)) fault
no_tick (word ∷ words) line h fault = cc

no_scrub : (words : List (List ℕ)) (line : Line) → scrub_of words ≡ Some line → ¬ IsFault line
unfolding scrub_of
no_scrub [] line h fault = subst IsFault (sym (some_same (Scrub false) line h)) fault
no_scrub (word ∷ []) line h fault = subst IsFault (sym (tested_some (bytes_eq word _) (Scrub true) line h).1) fault
no_scrub (word ∷ next ∷ words) line h fault = cc

no_command : (words : List (List ℕ)) (line : Line) (payload : List ℕ) → command_of words ≡ Some (line, payload) → ¬ IsFault line
unfolding command_of
no_command [] line payload h fault = cc
no_command (word ∷ words) line payload h fault =
    let cdb = bind_some (command_block_of word) _ (line, payload) h in
    let put = bind_some (payload_of (out_length_of cdb.0) words) _ (line, payload) cdb.2 in
    subst IsFault (sym (pair_same (Command cdb.0) line put.0 payload put.2).0) fault

-- ---- a fault is a line, and each line that is one is a fault

module _ (word : List ℕ) (words : List (List ℕ)) (line : Line) where
  behind_form : (form : Form) → form_of word ≡ Some form → fault_by words form ≡ Some line
      → (line_of (word ∷ words) ≡ Some (line, [])) × IsFault line
  unfolding line_of
  behind_form forms.Fail named is = (rw (named, is) refl, is_fail words line is)
  behind_form forms.Wear named is = (rw (named, is) refl, is_wear words line is)
  behind_form forms.Cut named is = (rw (named, is) refl, is_cut words line is)
  behind_form forms.Press named is = cc
  behind_form forms.Power named is = cc
  behind_form forms.Tick named is = cc
  behind_form forms.Scrub named is = cc
  behind_form forms.Command named is = cc

  by_form : (form : Form) → line_by words form ≡ Some (line, []) → IsFault line → fault_by words form ≡ Some line
  by_form forms.Fail is fault = (alone_found (fail_of words) line [] is).0
  by_form forms.Wear is fault = (alone_found (wear_of words) line [] is).0
  by_form forms.Cut is fault = (alone_found (cut_of words) line [] is).0
  by_form forms.Press is fault = absurd (no_press words line (alone_found (press_of words) line [] is).0 fault)
  by_form forms.Power is fault = absurd (no_power words line (alone_found (power_of words) line [] is).0 fault)
  by_form forms.Tick is fault = absurd (no_tick words line (alone_found (tick_of words) line [] is).0 fault)
  by_form forms.Scrub is fault = absurd (no_scrub words line (alone_found (scrub_of words) line [] is).0 fault)
  by_form forms.Command is fault = absurd (no_command words line [] is fault)

pub fault_reads : (words : List (List ℕ)) (line : Line) → fault_of words ≡ Some line → (line_of words ≡ Some (line, [])) × IsFault line
unfolding fault_of
fault_reads [] line h = cc
fault_reads (word ∷ words) line h =
    let form = bind_some (form_of word) (fault_by words) line h in behind_form word words line form.0 form.1 form.2

pub fault_given : (words : List (List ℕ)) (line : Line) → line_of words ≡ Some (line, []) → IsFault line → fault_of words ≡ Some line
unfolding line_of fault_of
fault_given [] line h fault = absurd (subst IsFault (sym (pair_same Empty line [] [] h).0) fault)
fault_given (word ∷ words) line h fault =
    let form = bind_some (form_of word) (line_by words) (line, []) h in
    ap (λ (o : Option Form). o >>= fault_by words) form.1 ∙ by_form word words line form.0 form.2 fault

-- a fault has no data
without_data : (form : Form) (words : List (List ℕ)) (line : Line) (payload : List ℕ) → line_by words form ≡ Some (line, payload) → IsFault line → [] ≡ payload
without_data forms.Press words line payload h fault = (alone_found (press_of words) line payload h).1
without_data forms.Power words line payload h fault = (alone_found (power_of words) line payload h).1
without_data forms.Fail words line payload h fault = (alone_found (fail_of words) line payload h).1
without_data forms.Wear words line payload h fault = (alone_found (wear_of words) line payload h).1
without_data forms.Cut words line payload h fault = (alone_found (cut_of words) line payload h).1
without_data forms.Tick words line payload h fault = (alone_found (tick_of words) line payload h).1
without_data forms.Scrub words line payload h fault = (alone_found (scrub_of words) line payload h).1
without_data forms.Command words line payload h fault = absurd (no_command words line payload h fault)

pub fault_has_no_data : (words : List (List ℕ)) (line : Line) (payload : List ℕ) → line_of words ≡ Some (line, payload) → IsFault line → [] ≡ payload
unfolding line_of
fault_has_no_data [] line payload h fault = absurd (subst IsFault (sym (pair_same Empty line [] payload h).0) fault)
fault_has_no_data (word ∷ words) line payload h fault =
    let form = bind_some (form_of word) (line_by words) (line, payload) h in without_data form.0 words line payload form.2 fault

-- ---- the word, without its carriage return

module _ (word : List ℕ) where
  sign_reads_none : eqb (get_or (without_return word) 0 0) 35 ≡ true → (line : Line) → ¬ IsFaultWord word line
  sign_reads_none sign line is = absurd (subst IsFault (sym (pair_same Empty line [] [] (sym read_so ∙ line_given word line [] is.reads)).0) is.fault)
    where
      read_so : reading_of (without_return word) ≡ Some (Empty, [])
      read_so = rw sign refl

  read_so : eqb (get_or (without_return word) 0 0) 35 ≡ false → reading_of (without_return word) ≡ line_of (words_of (without_return word))
  read_so no_sign = rw no_sign refl

  pub found_word : (line : Line) → fault_in (without_return word) ≡ Some line → IsFaultWord word line
  found_word line h =
      let t = tested_none (eqb (get_or (without_return word) 0 0) 35) (fault_of (words_of (without_return word))) line h in
      let r = fault_reads (words_of (without_return word)) line t.1 in
      record { reads = line_found word line [] (read_so t.0 ∙ r.0); fault = r.1 }
    where
      tested_none : (b : Bool) (o : Option Line) (line : Line) → (if b then None else o) ≡ Some line → (b ≡ false) × (o ≡ Some line)
      tested_none true o line h = cc
      tested_none false o line h = (refl, h)

  pub given_word : (line : Line) → IsFaultWord word line → fault_in (without_return word) ≡ Some line
  given_word line is = by (eqb (get_or (without_return word) 0 0) 35) refl
    where
      by : (b : Bool) → eqb (get_or (without_return word) 0 0) 35 ≡ b → fault_in (without_return word) ≡ Some line
      by true sign = absurd (sign_reads_none sign line is)
      by false no_sign = rw no_sign (fault_given (words_of (without_return word)) line (sym (read_so no_sign) ∙ line_given word line [] is.reads) is.fault)

-- what is read of a word
module _ (word body : List ℕ) (is : body ≡ without_return word) where
  pub some_word : (result : Option Line) → result ≡ fault_in body → IfSome result (IsFaultWord word)
  some_word None same = tt
  some_word (Some line) same = found_word word line (ap fault_in (sym is) ∙ sym same)

  pub none_word : (result : Option Line) → result ≡ fault_in body → IfNone result ((line : Line) → ¬ IsFaultWord word line)
  none_word None same = λ line fault. (let h = same ∙ ap fault_in is ∙ given_word word line fault in cc)
  none_word (Some line) same = tt
