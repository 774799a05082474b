-- What the lines of a run leave of a register, whichever bytes a lost sector has: what a drive shows goes with two of them, and a good
-- read shows one.
use Rattle.std.specs.Prelude.{◌&&◌, not, ◌≡◌, ℕ, ◌==◌, ◌⊎◌, Bool, true, false, nat_lt, if◌then◌else◌, MatchBool, Option, None, Some, Result, Ok, Err, List, [], ◌∷◌}
use Rattle.std.specs.List.{Contains}
use Rattle.std.proofs.Common.{arith, refl, sym, ap, ◌∙◌, inl, inr, subst}
use Rattle.model_places.specs.Places.{Lists}
use Rattle.model_modes.specs.ParameterLists.{caches_after}
use Rattle.model_drive.specs.declared.Kind.{Kind}
use Rattle.model_drive.specs.declared.Kind.TheVariants as kinds
use Rattle.model_sectors.specs.Discs.{zeros}
use Rattle.model_sectors.specs.Requests.{block_with}
use Rattle.model_cache.specs.Values.{Contents, Has, no_values}
use Rattle.model_cache.specs.Shown.{CacheShown, CacheStandsFor}
use Rattle.model_cache.proofs.Falls.{one, none_within}
use Rattle.model_sense.specs.declared.sense.Sense.{Sense}
use Rattle.model_sense.specs.declared.answer.Answer.{Answer}
use Rattle.model_sense.specs.declared.answer.Answer.TheVariants as answers
use Rattle.model_cdb.specs.declared.commands.Command.{Command}
use Rattle.model_cdb.specs.declared.commands.Command.TheVariants as commands
use Rattle.model_cdb.specs.Decoding.{decoded}
use Rattle.ram_report.specs.declared.printing.Event.TheVariants as events
use Rattle.ram_text.specs.declared.script.Line.{Line}
use Rattle.ram_text.specs.declared.script.Line.TheVariants as lines
use Rattle.ram_machine.specs.declared.reply.Reply.{Reply}
use Rattle.ram_machine.specs.declared.reply.Reply.TheVariants as replies
use Rattle.ram_machine.specs.SectorBytes.{bytes_of_sector, is_sector_among}
use Rattle.ram_machine.proofs.WrittenDiscs.{SoInBlock, SoInContents}
use Rattle.ram_machine.specs.Register.{synchronised_if, Value, Bytes, Lost, Register, settled, or_else, gone, left_by, left_in, powered, is_midway, goes_through, AfterWrite, AfterFull, AfterRewrite, AfterFormat, AfterGood, AfterOther, AfterCommand, AfterPower, AfterPress, Shows, Turn, synchronised}
use Rattle.ram_machine.proofs.SectorValues.{now_under, falls_under}
use Rattle.ram_machine.proofs.SectorFilled.{filled, filled_differ}
use Rattle.ram_machine.proofs.SectorMatching.{Matches, Turned}
use Rattle.ram_machine.proofs.SectorFormatted.{FullUnder, FormatUnder}
use Rattle.ram_machine.proofs.SectorCommands.{OtherUnder, CommandUnder}
use Rattle.ram_machine.proofs.SectorTurns.{TurnUnder}

-- two sectors that differ
abbrev pub one_lost : List ℕ
one_lost = filled 0 2048

abbrev pub other_lost : List ℕ
other_lost = filled 1 2048

-- what a drive shows goes with the register, where a lost sector has these bytes
pub record Held (lost : List ℕ) (at : ℕ) (shown : CacheShown) (r : Register) : Type 0 where
  pub contents : Contents
  pub stands : CacheStandsFor shown contents
  pub matches : Matches lost at shown contents r

-- and where it has others
pub record HeldBoth (at : ℕ) (shown : CacheShown) (r : Register) : Type 0 where
  pub one : Held one_lost at shown r
  pub other : Held other_lost at shown r

-- The rule leads to a register that goes with it.
pub record BothTurned (at : ℕ) (shown : CacheShown) (Rule : Register → Type 0) : Type 0 where
  pub after : Register
  pub rule : Rule after
  pub held : HeldBoth at shown after

-- in the register no sector is lost
record KnowsAll (r : Register) : Type 0 where
  now : now_under one_lost r.now ≡ now_under other_lost r.now
  falls : falls_under one_lost r.falls ≡ falls_under other_lost r.falls

none_some : {A : Type 0} {a : A} → None ≡ Some a → ⊥
none_some is = cc

same_some : {A : Type 0} {a b : A} → Some a ≡ Some b → a ≡ b
same_some is = cc

-- a good read shows what the sector has
shown_value : (now : Option Value) (bytes : List ℕ) → now_under one_lost now ≡ Some bytes → now_under other_lost now ≡ Some bytes → now ≡ Some (Bytes bytes)
shown_value None bytes one other = absurd (none_some one)
shown_value (Some (Bytes held)) bytes one other = ap (λ (b : List ℕ). Some (Bytes b)) (same_some one)
shown_value (Some Lost) bytes one other = absurd (filled_differ 2048 (omega arith) (same_some one ∙ sym (same_some other)))

pub none_now : (lost : List ℕ) (now : Option Value) → now_under lost now ≡ None → now ≡ None
none_now lost None is = refl
none_now lost (Some value) is = absurd (none_some (sym is))

module _ (at : ℕ) (new : CacheShown) (t u : Contents) (stands : CacheStandsFor new t) (also : CacheStandsFor new u) where
  abbrev One : (Register → Type 0) → Type 0
  One Rule = Turned one_lost at new t Rule

  abbrev Other : (Register → Type 0) → Type 0
  Other Rule = Turned other_lost at new u Rule

  abbrev Both : (Register → Type 0) → Type 0
  Both Rule = BothTurned at new Rule

  agreed : (Rule : Register → Type 0) (x : Register) → Rule x → Matches one_lost at new t x → Matches other_lost at new u x → Both Rule
  agreed Rule x rule one other = record {
    after = x;
    rule = rule;
    held = record { one = record { contents = t; stands = stands; matches = one }; other = record { contents = u; stands = also; matches = other } };
  }

  -- each leads to this register
  same : (Rule : Register → Type 0) (x : Register) → Rule x → One (λ a. a ≡ x) → Other (λ a. a ≡ x) → Both Rule
  same Rule x rule one other = agreed Rule x rule (subst (Matches one_lost at new t) one.rule one.matches) (subst (Matches other_lost at new u) other.rule other.matches)

  by_one : (Rule : Register → Type 0) (x : Register) → Rule x → KnowsAll x → Matches one_lost at new t x → Both Rule
  by_one Rule x rule knows m = record {
    after = x;
    rule = rule;
    held = record {
      one = record { contents = t; stands = stands; matches = m };
      other = record {
        contents = t;
        stands = stands;
        matches = record { now = sym knows.now ∙ m.now; falls = subst (λ (l : List (List ℕ)). SoInContents (Contains l) at t) knows.falls m.falls; caches = m.caches };
      };
    };
  }

  by_other : (Rule : Register → Type 0) (x : Register) → Rule x → KnowsAll x → Matches other_lost at new u x → Both Rule
  by_other Rule x rule knows m = record {
    after = x;
    rule = rule;
    held = record {
      one = record {
        contents = u;
        stands = also;
        matches = record { now = knows.now ∙ m.now; falls = subst (λ (l : List (List ℕ)). SoInContents (Contains l) at u) (sym knows.falls) m.falls; caches = m.caches };
      };
      other = record { contents = u; stands = also; matches = m };
    };
  }

  module _ (r : Register) where
    -- ---- a write
    midway : (b : Bool) (bytes : List ℕ) → One (λ a. MatchBool b ((a ≡ r) ⊎ (a ≡ settled r (Bytes bytes))) (a ≡ r)) → Other (λ a. MatchBool b ((a ≡ r) ⊎ (a ≡ settled r (Bytes bytes))) (a ≡ r))
        → Both (λ a. MatchBool b ((a ≡ r) ⊎ (a ≡ settled r (Bytes bytes))) (a ≡ r))
    midway true bytes one other = by_rules one.rule other.rule
      where
        Rule : Register → Type 0
        Rule a = (a ≡ r) ⊎ (a ≡ settled r (Bytes bytes))

        by_rules : Rule one.after → Rule other.after → Both (λ a. (a ≡ r) ⊎ (a ≡ settled r (Bytes bytes)))
        by_rules (inl is) (inl also_is) =
            agreed (λ a. (a ≡ r) ⊎ (a ≡ settled r (Bytes bytes))) r (inl refl) (subst (Matches one_lost at new t) is one.matches) (subst (Matches other_lost at new u) also_is other.matches)
        by_rules (inr is) p =
            by_one (λ a. (a ≡ r) ⊎ (a ≡ settled r (Bytes bytes))) (settled r (Bytes bytes)) (inr refl) (record { now = refl; falls = refl }) (subst (Matches one_lost at new t) is one.matches)
        by_rules (inl is) (inr also_is) =
            by_other (λ a. (a ≡ r) ⊎ (a ≡ settled r (Bytes bytes))) (settled r (Bytes bytes)) (inr refl) (record { now = refl; falls = refl }) (subst (Matches other_lost at new u) also_is other.matches)
    midway false bytes one other = same (λ a. a ≡ r) r refl one other

    write_both : (through : Bool) (bytes : List ℕ) (answer : Answer) → One (λ a. AfterWrite r through bytes answer a) → Other (λ a. AfterWrite r through bytes answer a) → Both (λ a. AfterWrite r through bytes answer a)
    write_both true bytes answers.Good one other = same (λ a. a ≡ settled r (Bytes bytes)) (settled r (Bytes bytes)) refl one other
    write_both true bytes (answers.Check why) one other = midway (is_midway why) bytes one other
    write_both true bytes answers.Cut one other = same (λ a. a ≡ gone (or_else r (Bytes bytes))) (gone (or_else r (Bytes bytes))) refl one other
    write_both true bytes answers.Off one other = same (λ a. a ≡ r) r refl one other
    write_both true bytes answers.Fault one other = same (λ a. a ≡ r) r refl one other
    write_both false bytes answers.Good one other =
        same (λ a. a ≡ or_else (record r { now = Some (Bytes bytes) }) (Bytes bytes)) (or_else (record r { now = Some (Bytes bytes) }) (Bytes bytes)) refl one other
    write_both false bytes (answers.Check why) one other = same (λ a. a ≡ r) r refl one other
    write_both false bytes answers.Cut one other = same (λ a. a ≡ gone r) (gone r) refl one other
    write_both false bytes answers.Off one other = same (λ a. a ≡ r) r refl one other
    write_both false bytes answers.Fault one other = same (λ a. a ≡ r) r refl one other

    among_both : (among through : Bool) (bytes : List ℕ) (answer : Answer) → One (λ a. MatchBool among (AfterWrite r through bytes answer a) (a ≡ left_by answer r))
        → Other (λ a. MatchBool among (AfterWrite r through bytes answer a) (a ≡ left_by answer r)) → Both (λ a. MatchBool among (AfterWrite r through bytes answer a) (a ≡ left_by answer r))
    among_both true through bytes answer one other = write_both through bytes answer one other
    among_both false through bytes answer one other = same (λ a. a ≡ left_by answer r) (left_by answer r) refl one other

    -- ---- a format
    -- without a disc nothing is said of the sector
    emptied : (lost : List ℕ) (c : Contents) → c ≡ Has no_values → SoInContents (Contains (falls_under lost r.falls)) at c
    emptied lost c is =
        subst (SoInContents (Contains (falls_under lost r.falls)) at) (sym is)
        (one (SoInBlock (Contains (falls_under lost r.falls)) at) (block_with at) no_values (none_within (SoInBlock (Contains (falls_under lost r.falls)) at) (block_with at)))

    gone_both : (Rule : Register → Type 0) (lost : List ℕ) (c : Contents) → Rule (gone r) → CacheStandsFor new c → c ≡ Has no_values → Matches lost at new c (gone r) → Both Rule
    gone_both Rule lost c rule holds none m = record {
      after = gone r;
      rule = rule;
      held = record {
        one = record { contents = c; stands = holds; matches = record { now = m.now; falls = emptied one_lost c none; caches = m.caches } };
        other = record { contents = c; stands = holds; matches = record { now = m.now; falls = emptied other_lost c none; caches = m.caches } };
      };
    }

    abbrev Failed : Bool → Contents → Register → Type 0
    Failed b c a = MatchBool b ((a ≡ r) ⊎ ((a ≡ gone r) × (c ≡ Has no_values))) (a ≡ r)

    failed_both : (b : Bool) → One (λ a. Failed b t a) → Other (λ a. Failed b u a) → Both (λ a. MatchBool b ((a ≡ r) ⊎ (a ≡ gone r)) (a ≡ r))
    failed_both true one other = by_rules one.rule other.rule
      where
        by_rules : Failed true t one.after → Failed true u other.after → Both (λ a. (a ≡ r) ⊎ (a ≡ gone r))
        by_rules (inl is) (inl also_is) = agreed (λ a. (a ≡ r) ⊎ (a ≡ gone r)) r (inl refl) (subst (Matches one_lost at new t) is one.matches) (subst (Matches other_lost at new u) also_is other.matches)
        by_rules (inr is) p = gone_both (λ a. (a ≡ r) ⊎ (a ≡ gone r)) one_lost t (inr refl) stands is.1 (subst (Matches one_lost at new t) is.0 one.matches)
        by_rules (inl is) (inr also_is) = gone_both (λ a. (a ≡ r) ⊎ (a ≡ gone r)) other_lost u (inr refl) also also_is.1 (subst (Matches other_lost at new u) also_is.0 other.matches)
    failed_both false one other = same (λ a. a ≡ r) r refl one other

    abbrev zero : Value
    zero = Bytes (zeros 2048)

    full_both : (answer : Answer) → One (λ a. FullUnder t r answer a) → Other (λ a. FullUnder u r answer a) → Both (λ a. AfterFull r answer a)
    full_both answers.Good one other = by_rule one.rule
      where
        by_rule : (one.after ≡ settled r zero) ⊎ (one.after ≡ gone (settled r zero)) → Both (λ a. (a ≡ settled r zero) ⊎ (a ≡ gone (settled r zero)))
        by_rule (inl is) = by_one (λ a. (a ≡ settled r zero) ⊎ (a ≡ gone (settled r zero))) (settled r zero) (inl refl) (record { now = refl; falls = refl }) (subst (Matches one_lost at new t) is one.matches)
        by_rule (inr is) =
            by_one (λ a. (a ≡ settled r zero) ⊎ (a ≡ gone (settled r zero))) (gone (settled r zero)) (inr refl) (record { now = refl; falls = refl }) (subst (Matches one_lost at new t) is one.matches)
    full_both (answers.Check why) one other = failed_both (why.asc == 0x31) one other
    full_both answers.Cut one other = same (λ a. a ≡ gone (or_else r zero)) (gone (or_else r zero)) refl one other
    full_both answers.Off one other = same (λ a. a ≡ r) r refl one other
    full_both answers.Fault one other = same (λ a. a ≡ r) r refl one other

    left_rewrite : (now : Option Value) (answer : Answer) (after : Register) → after ≡ left_by answer r → AfterRewrite now r answer after
    left_rewrite (Some value) answer after is = is
    left_rewrite None answer after is = inl is

    fresh_rewrite : (now : Option Value) (answer : Answer) (after : Register) → now ≡ None → AfterFull r answer after → AfterRewrite now r answer after
    fresh_rewrite (Some value) answer after is full = absurd (none_some (sym is))
    fresh_rewrite None answer after is full = inr full

    format_both : (lists : Option Lists) (kind : Kind) (answer : Answer) → (lists ≡ None → r.now ≡ None) → One (λ a. FormatUnder lists t r kind answer a) → Other (λ a. FormatUnder lists u r kind answer a)
        → Both (λ a. AfterFormat r kind answer a)
    format_both lists (kinds.Full drop_sdl) answer none one other = full_both answer one other
    format_both None kinds.Rewrite answer none one other =
        let full = full_both answer one other in record { after = full.after; rule = fresh_rewrite r.now answer full.after (none refl) full.rule; held = full.held }
    format_both (Some lists) kinds.Rewrite answer none one other = same (λ a. AfterRewrite r.now r answer a) (left_by answer r) (left_rewrite r.now answer (left_by answer r) refl) one other

    -- ---- other commands
    read_both : (lists : Option Lists) (lba n : ℕ) (payload data_in : List ℕ) (answer : Answer) → One (λ a. OtherUnder one_lost at lists t r (commands.Read lba n) payload data_in answer a)
        → Other (λ a. OtherUnder other_lost at lists u r (commands.Read lba n) payload data_in answer a) → Both (λ a. AfterOther at r (commands.Read lba n) payload data_in answer a)
    read_both lists lba n payload data_in answers.Good one other =
        agreed (λ a. Shows at r lba n data_in × (a ≡ r)) r
        (record { whole = one.rule.0.whole; shown = λ among. shown_value r.now (bytes_of_sector lba data_in at) (one.rule.0.shown among) (other.rule.0.shown among) }, refl)
        (subst (Matches one_lost at new t) one.rule.1 one.matches) (subst (Matches other_lost at new u) other.rule.1 other.matches)
    read_both lists lba n payload data_in (answers.Check why) one other = same (λ a. a ≡ r) r refl one other
    read_both lists lba n payload data_in answers.Cut one other = same (λ a. a ≡ gone r) (gone r) refl one other
    read_both lists lba n payload data_in answers.Off one other = same (λ a. a ≡ r) r refl one other
    read_both lists lba n payload data_in answers.Fault one other = same (λ a. a ≡ r) r refl one other

    other_both : (asked : Command) (x : Register) (payload data_in : List ℕ) (answer : Answer) → ((a : Register) → AfterGood at r asked payload data_in a → a ≡ x) → AfterGood at r asked payload data_in x
        → One (λ a. AfterOther at r asked payload data_in answer a) → Other (λ a. AfterOther at r asked payload data_in answer a) → Both (λ a. AfterOther at r asked payload data_in answer a)
    other_both asked x payload data_in answers.Good alone rule one other =
        agreed (λ a. AfterGood at r asked payload data_in a) x rule (subst (Matches one_lost at new t) (alone one.after one.rule) one.matches) (subst (Matches other_lost at new u) (alone other.after other.rule) other.matches)
    other_both asked x payload data_in (answers.Check why) alone rule one other = same (λ a. a ≡ r) r refl one other
    other_both asked x payload data_in answers.Cut alone rule one other = same (λ a. a ≡ gone r) (gone r) refl one other
    other_both asked x payload data_in answers.Off alone rule one other = same (λ a. a ≡ r) r refl one other
    other_both asked x payload data_in answers.Fault alone rule one other = same (λ a. a ≡ r) r refl one other

    refused_both : (answer : Answer) (data_in : List ℕ) → One (λ a. (data_in ≡ []) × (a ≡ left_by answer r)) → Other (λ a. (data_in ≡ []) × (a ≡ left_by answer r)) → Both (λ a. (data_in ≡ []) × (a ≡ left_by answer r))
    refused_both answer data_in one other =
        agreed (λ a. (data_in ≡ []) × (a ≡ left_by answer r)) (left_by answer r) (one.rule.0, refl) (subst (Matches one_lost at new t) one.rule.1 one.matches) (subst (Matches other_lost at new u) other.rule.1 other.matches)

    command_both : (lists : Option Lists) (d : Result Command Sense) (payload data_in : List ℕ) (answer : Answer) → (lists ≡ None → r.now ≡ None) → One (λ a. CommandUnder one_lost at lists t r d payload data_in answer a)
        → Other (λ a. CommandUnder other_lost at lists u r d payload data_in answer a) → Both (λ a. AfterCommand at r d payload data_in answer a)
    command_both lists (Err why) payload data_in answer none one other = refused_both answer data_in one other
    command_both lists (Ok (commands.Write lba n fua)) payload data_in answer none one other = among_both (is_sector_among lba n at) (goes_through r lba n fua) (bytes_of_sector lba payload at) answer one other
    command_both lists (Ok (commands.Format kind)) payload data_in answer none one other = format_both lists kind answer none one other
    command_both lists (Ok (commands.Read lba n)) payload data_in answer none one other = read_both lists lba n payload data_in answer one other
    command_both lists (Ok commands.TestUnitReady) payload data_in answer none one other = other_both commands.TestUnitReady r payload data_in answer (λ a is. is) refl one other
    command_both lists (Ok (commands.RequestSense alloc)) payload data_in answer none one other = other_both (commands.RequestSense alloc) r payload data_in answer (λ a is. is) refl one other
    command_both lists (Ok (commands.Expand sectors)) payload data_in answer none one other = other_both (commands.Expand sectors) (if nat_lt at sectors then r else gone r) payload data_in answer (λ a is. is) refl one other
    command_both lists (Ok (commands.Inquiry vital alloc)) payload data_in answer none one other = other_both (commands.Inquiry vital alloc) r payload data_in answer (λ a is. is) refl one other
    command_both lists (Ok (commands.StartStop start eject)) payload data_in answer none one other = other_both (commands.StartStop start eject) (synchronised_if (eject && not start) r) payload data_in answer (λ a is. is) refl one other
    command_both lists (Ok (commands.Prevent on)) payload data_in answer none one other = other_both (commands.Prevent on) r payload data_in answer (λ a is. is) refl one other
    command_both lists (Ok (commands.FormatCapacities alloc)) payload data_in answer none one other = other_both (commands.FormatCapacities alloc) r payload data_in answer (λ a is. is) refl one other
    command_both lists (Ok commands.ReadCapacity) payload data_in answer none one other = other_both commands.ReadCapacity r payload data_in answer (λ a is. is) refl one other
    command_both lists (Ok (commands.Verify lba n)) payload data_in answer none one other = other_both (commands.Verify lba n) r payload data_in answer (λ a is. is) refl one other
    command_both lists (Ok commands.Synchronize) payload data_in answer none one other = other_both commands.Synchronize (synchronised r.now r) payload data_in answer (λ a is. is) refl one other
    command_both lists (Ok (commands.Configuration rt start alloc)) payload data_in answer none one other = other_both (commands.Configuration rt start alloc) r payload data_in answer (λ a is. is) refl one other
    command_both lists (Ok (commands.Events media alloc)) payload data_in answer none one other = other_both (commands.Events media alloc) r payload data_in answer (λ a is. is) refl one other
    command_both lists (Ok (commands.DiscInformation alloc)) payload data_in answer none one other = other_both (commands.DiscInformation alloc) r payload data_in answer (λ a is. is) refl one other
    command_both lists (Ok commands.ModeSelect) payload data_in answer none one other = other_both commands.ModeSelect (record (synchronised_if (r.caches && not (caches_after payload r.caches)) r) { caches = caches_after payload r.caches }) payload data_in answer (λ a is. is) refl one other
    command_both lists (Ok (commands.ModeSense short control page alloc)) payload data_in answer none one other = other_both (commands.ModeSense short control page alloc) r payload data_in answer (λ a is. is) refl one other
    command_both lists (Ok (commands.Structure format alloc)) payload data_in answer none one other = other_both (commands.Structure format alloc) r payload data_in answer (λ a is. is) refl one other
    command_both lists (Ok commands.Streaming) payload data_in answer none one other = other_both commands.Streaming r payload data_in answer (λ a is. is) refl one other

    -- ---- a `power` line
    value_both : (Rule : Register → Type 0) (one_value other_value : Value) → ((value : Value) → Contains r.falls value → Rule (powered r (Some value) (value ∷ []))) → Contains r.falls one_value → Contains r.falls other_value
        → Matches one_lost at new t (powered r (Some one_value) (one_value ∷ [])) → Matches other_lost at new u (powered r (Some other_value) (other_value ∷ [])) → Both Rule
    value_both Rule (Bytes bytes) other_value rule among also_among one other =
        by_one Rule (powered r (Some (Bytes bytes)) (Bytes bytes ∷ [])) (rule (Bytes bytes) among) (record { now = refl; falls = refl }) one
    value_both Rule Lost (Bytes bytes) rule among also_among one other =
        by_other Rule (powered r (Some (Bytes bytes)) (Bytes bytes ∷ [])) (rule (Bytes bytes) also_among) (record { now = refl; falls = refl }) other
    value_both Rule Lost Lost rule among also_among one other = agreed Rule (powered r (Some Lost) (Lost ∷ [])) (rule Lost among) one other

    abbrev Found : Bool → Register → Type 0
    Found b a = MatchBool b ((value : Value) × Contains r.falls value × (a ≡ powered r (Some value) (value ∷ []))) (a ≡ powered r None r.falls)

    ready_both : (b : Bool) → One (λ a. Found b a) → Other (λ a. Found b a) → Both (λ a. Found b a)
    ready_both true one other =
        value_both (λ a. Found true a) one.rule.0 other.rule.0 (λ value among. (value, among, refl)) one.rule.1 other.rule.1
        (subst (Matches one_lost at new t) one.rule.2 one.matches) (subst (Matches other_lost at new u) other.rule.2 other.matches)
    ready_both false one other = same (λ a. a ≡ powered r None r.falls) (powered r None r.falls) refl one other

    power_both : (reply : Reply) → One (λ a. AfterPower at r reply a) → Other (λ a. AfterPower at r reply a) → Both (λ a. AfterPower at r reply a)
    power_both (replies.Event (events.Ready capacity)) one other = ready_both (nat_lt at capacity) one other
    power_both _ one other = same (λ a. a ≡ powered r None r.falls) (powered r None r.falls) refl one other

    -- ---- a press
    press_both : (reply : Reply) → One (λ a. AfterPress r reply a) → Other (λ a. AfterPress r reply a) → Both (λ a. AfterPress r reply a)
    press_both (replies.Event events.Pressed) one other = same (λ a. a ≡ powered r None []) (powered r None []) refl one other
    press_both _ one other = same (λ a. a ≡ r) r refl one other

    -- ---- a line
    with_none : (data_in : List ℕ) (Rule : Register → Type 0) → (One (λ a. Rule a) → Other (λ a. Rule a) → Both (λ a. Rule a)) → One (λ a. (data_in ≡ []) × Rule a) → Other (λ a. (data_in ≡ []) × Rule a)
        → Both (λ a. (data_in ≡ []) × Rule a)
    with_none data_in Rule join one other =
        let joined = join (record { after = one.after; rule = one.rule.1; matches = one.matches }) (record { after = other.after; rule = other.rule.1; matches = other.matches }) in
        record { after = joined.after; rule = (one.rule.0, joined.rule); held = joined.held }

    left_both : (data_in : List ℕ) (reply : Reply) → One (λ a. (data_in ≡ []) × (a ≡ left_in reply r)) → Other (λ a. (data_in ≡ []) × (a ≡ left_in reply r)) → Both (λ a. (data_in ≡ []) × (a ≡ left_in reply r))
    left_both data_in reply one other = with_none data_in (λ a. a ≡ left_in reply r) (same (λ a. a ≡ left_in reply r) (left_in reply r) refl) one other

    same_answer : (cdb : List ℕ) (reply : Reply) (a b : Answer) → reply ≡ replies.Command cdb a → reply ≡ replies.Command cdb b → b ≡ a
    same_answer cdb reply a b is also_is = let both : replies.Command cdb b ≡ replies.Command cdb a = sym also_is ∙ is in cc

    asked_both : (lists : Option Lists) (cdb payload : List ℕ) (reply : Reply) (data_in : List ℕ) → (lists ≡ None → r.now ≡ None)
        → One (λ a. TurnUnder one_lost at lists t r (lines.Command cdb) payload reply data_in a) → Other (λ a. TurnUnder other_lost at lists u r (lines.Command cdb) payload reply data_in a)
        → Both (λ a. Turn at r (lines.Command cdb) payload reply data_in a)
    asked_both lists cdb payload reply data_in none one other =
        let answer : Answer = one.rule.0 in
        let joined = command_both lists (decoded cdb payload) payload data_in answer none (record { after = one.after; rule = one.rule.2; matches = one.matches }) (record {
          after = other.after;
          rule = subst (λ (x : Answer). CommandUnder other_lost at lists u r (decoded cdb payload) payload data_in x other.after) (same_answer cdb reply answer other.rule.0 one.rule.1 other.rule.1) other.rule.2;
          matches = other.matches;
        }) in
        record { after = joined.after; rule = (answer, one.rule.1, joined.rule); held = joined.held }

    pub line_both : (lists : Option Lists) (line : Line) (payload : List ℕ) (reply : Reply) (data_in : List ℕ) → (lists ≡ None → r.now ≡ None) → One (λ a. TurnUnder one_lost at lists t r line payload reply data_in a)
        → Other (λ a. TurnUnder other_lost at lists u r line payload reply data_in a) → Both (λ a. Turn at r line payload reply data_in a)
    line_both lists lines.Power payload reply data_in none one other = with_none data_in (λ a. AfterPower at r reply a) (power_both reply) one other
    line_both lists (lines.Command cdb) payload reply data_in none one other = asked_both lists cdb payload reply data_in none one other
    line_both lists lines.Empty payload reply data_in none one other = left_both data_in reply one other
    line_both lists (lines.Fail block) payload reply data_in none one other = left_both data_in reply one other
    line_both lists (lines.Wear block n) payload reply data_in none one other = left_both data_in reply one other
    line_both lists (lines.Cut n fate) payload reply data_in none one other = left_both data_in reply one other
    line_both lists (lines.Scrub all) payload reply data_in none one other = same (λ a. a ≡ left_in reply r) (left_in reply r) refl one other
    line_both lists lines.Tick payload reply data_in none one other = left_both data_in reply one other
    line_both lists (lines.Press zones scale psa) payload reply data_in none one other = with_none data_in (λ a. AfterPress r reply a) (press_both reply) one other
