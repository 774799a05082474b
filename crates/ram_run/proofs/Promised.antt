-- All promises, by the form that the words have: what the others say is of other words.
use Rattle.std.specs.Prelude.{◌≡◌, ℕ, ◌+◌, ◌*◌, ◌⊎◌, Bool, Option, List, [], ◌∷◌, length, get_or, drop, codes}
use Rattle.std.proofs.Common.{arith, refl, sym, ap, ◌∙◌, inl, inr, subst}
use Rattle.model_geometry.specs.declared.kinds.LayoutKind.{LayoutKind}
use Rattle.model_geometry.specs.declared.kinds.LayoutKind.TheVariants.{OneGroup, EachZone}
use Rattle.ram_machine.specs.declared.status.Status.{Status}
use Rattle.ram_machine.specs.declared.status.Status.TheVariants as statuses
use Rattle.ram_outside.specs.Past.{Moment}
use Rattle.ram_script.specs.Around.{Surroundings, IsUntouched, UntouchedByUsage, TellsText, TextCount}
use Rattle.ram_script.specs.Endings.{IsOfRun, StatusCounts}
use Rattle.ram_script.specs.RunCounts.{SameCounts, counts_of}
use Rattle.ram_text.specs.declared.script.Line.{Line}
use Rattle.ram_text.specs.Faults.{AreFaultWords}
use Rattle.ram_certificate.specs.Auditing.{Audits, Checks}
use Rattle.ram_client.specs.Serving.{ServesClient}
use Rattle.ram_mirrored.specs.Running.{RunsMirror}
use Rattle.ram_run.specs.declared.help.TheConstants.{HELP, VERSION}
use Rattle.ram_run.specs.Words.{IsServedOf, IsGenerateOf, IsAuditOf, IsCheckOf, IsNbdOf, IsMirrorOf, AsksForSession, IsHelp, IsVersion, IsWordForm, UsageRule, MemoryRule}
use Rattle.ram_run.specs.Promises.{RunsScript, RunsDrawn, Promises}
use Rattle.ram_run.proofs.Few.{one_served, one_generate, one_name}

-- ---- words of one form are of no other

-- a number by which the first of the words tells the form: its length and its first letter
abbrev number : List (List ℕ) → ℕ
number words = length (get_or words 0 []) * 256 + get_or (get_or words 0 []) 0 0

served_number : (words : List (List ℕ)) (kind : LayoutKind) (name : List ℕ) → IsServedOf kind name words → (number words ≡ 882) ⊎ (number words ≡ 1639)
served_number words OneGroup name is = inl (ap number is)
served_number words EachZone name is = inr (ap number is)

drawn_number : (words : List (List ℕ)) (name : List ℕ) (seed : ℕ) → IsGenerateOf name seed words → number words ≡ 2151
drawn_number words name seed is = ap number is.1

audit_number : (words : List (List ℕ)) (name : List ℕ) → IsAuditOf name words → number words ≡ 1377
audit_number words name is = ap number is

check_number : (words : List (List ℕ)) (name : List ℕ) → IsCheckOf name words → number words ≡ 1379
check_number words name is = ap number is

nbd_number : (words : List (List ℕ)) (name : List ℕ) (faults : List Line) → IsNbdOf name faults words → number words ≡ 878
nbd_number words name faults is = ap number is.1

mirror_number : (words : List (List ℕ)) (a b : List ℕ) → IsMirrorOf a b words → number words ≡ 1645
mirror_number words a b is = ap number is.0

help_number : (words : List (List ℕ)) → IsHelp words → number words ≡ 1581
help_number words is = ap number is

version_number : (words : List (List ℕ)) → IsVersion words → number words ≡ 2349
version_number words is = ap number is

-- words that are no script's
not_served : (words : List (List ℕ)) (n : ℕ) → number words ≡ n → (882 ≡ n → ⊥) → (1639 ≡ n → ⊥) → (kind : LayoutKind) (name : List ℕ) → IsServedOf kind name words → ⊥
not_served words n here one each kind name is = elim (served_number words kind name is) [ inl a ↦ one (sym a ∙ here) | inr b ↦ each (sym b ∙ here) ]

-- ---- what goes for each form

-- a run whose rooms were taken does not end for want of them
remembers : (status : Status) → IsOfRun status → MemoryRule status
remembers statuses.Usage of = absurd of
remembers statuses.NoMemory of = absurd of
remembers statuses.Done of = tt
remembers statuses.Differs of = tt
remembers statuses.Script of = tt
remembers statuses.ImageFault of = tt
remembers statuses.SourceFault of = tt
remembers statuses.SinkFault of = tt
remembers statuses.NotADisc of = tt

-- its words have a form
has_form : (words : List (List ℕ)) (status : Status) → IsOfRun status → IsWordForm words → UsageRule words status
has_form words statuses.Usage of form = absurd of
has_form words statuses.NoMemory of form = absurd of
has_form words statuses.Done of form = form
has_form words statuses.Differs of form = form
has_form words statuses.Script of form = form
has_form words statuses.ImageFault of form = form
has_form words statuses.SourceFault of form = form
has_form words statuses.SinkFault of form = form
has_form words statuses.NotADisc of form = form

module _ {I : Type 0} (old new : Surroundings I) where
  -- and it may touch what it works on
  may_touch : (status : Status) → IsOfRun status → UntouchedByUsage old new status
  may_touch statuses.Usage of = absurd of
  may_touch statuses.NoMemory of = absurd of
  may_touch statuses.Done of = tt
  may_touch statuses.Differs of = tt
  may_touch statuses.Script of = tt
  may_touch statuses.ImageFault of = tt
  may_touch statuses.SourceFault of = tt
  may_touch statuses.SinkFault of = tt
  may_touch statuses.NotADisc of = tt

-- where a text alone is written, the counts are as the status says
pub text_counts : (source image sink sink' : ℕ) (status : Status) → TextCount sink sink' status → StatusCounts (counts_of source sink image) (counts_of source sink' image) status
text_counts source image sink sink' statuses.Done count = record { source = refl; sink = count; image = refl }
text_counts source image sink sink' statuses.SinkFault count = inl (record { source = refl; sink = count; image = refl })
text_counts source image sink sink' statuses.Differs count = absurd count
text_counts source image sink sink' statuses.Usage count = absurd count
text_counts source image sink sink' statuses.Script count = absurd count
text_counts source image sink sink' statuses.ImageFault count = absurd count
text_counts source image sink sink' statuses.SourceFault count = absurd count
text_counts source image sink sink' statuses.NoMemory count = absurd count
text_counts source image sink sink' statuses.NotADisc count = absurd count

-- ---- all promises, by the form

module _ {I : Type 0} (bytes_of : I → Option (List ℕ)) (past_of : I → Option (List Moment)) (knows : Bool) (old new : Surroundings I) (status : Status) (words : List (List ℕ)) where
  -- the words have none: nothing is touched
  pub of_none : status ≡ statuses.Usage → ¬ IsWordForm words → old ≡ new → Promises bytes_of past_of knows old new status words
  of_none is none same = record {
    memory = subst MemoryRule (sym is) tt;
    usage = subst (UsageRule words) (sym is) none;
    untouched = subst (UntouchedByUsage old new) (sym is) untouched;
    causes = subst (StatusCounts old.counts new.counts) (sym is) (subst (λ (s : Surroundings I). SameCounts old.counts s.counts) same (record { source = refl; sink = refl; image = refl }));
    help = λ words_are. absurd (none (inr (inr (inl words_are))));
    version = λ words_are. absurd (none (inr (inr (inr (inl words_are)))));
    script = λ kind name words_are. absurd (none (inl (kind, (name, words_are))));
    drawn = λ name seed words_are. absurd (none (inr (inl (name, seed, words_are))));
    audit = λ name words_are. absurd (none (inr (inr (inr (inr (inl (name, inl words_are)))))));
    check = λ name words_are. absurd (none (inr (inr (inr (inr (inl (name, inr words_are)))))));
    client = λ name faults words_are. absurd (none (inr (inr (inr (inr (inr (inl (name, faults, words_are))))))));
    mirror = λ a b words_are. absurd (none (inr (inr (inr (inr (inr (inr (a, b, words_are))))))));
  }
    where
      untouched : IsUntouched old new
      untouched = subst (λ (s : Surroundings I). IsUntouched old s) same (record { unused = record { unread = refl; unasked = refl; unopened = refl }; unwritten = refl })

  module _ (of : IsOfRun status) (causes : StatusCounts old.counts new.counts status) where
    -- the help is told
    pub of_help : IsHelp words → TellsText old new HELP.now status → Promises bytes_of past_of knows old new status words
    of_help is keeps = record {
      memory = remembers status of;
      usage = has_form words status of (inr (inr (inl is)));
      untouched = may_touch old new status of;
      causes = causes;
      help = λ other. keeps;
      version = λ other. let a = help_number words is in let b = version_number words other in absurd (omega (arith, a, b));
      script = λ kind' name' other. absurd (not_served words 1581 (help_number words is) (λ e. omega (arith, e)) (λ e. omega (arith, e)) kind' name' other);
      drawn = λ name' seed' other. let a = help_number words is in let b = drawn_number words name' seed' other in absurd (omega (arith, a, b));
      audit = λ name' other. let a = help_number words is in let b = audit_number words name' other in absurd (omega (arith, a, b));
      check = λ name' other. let a = help_number words is in let b = check_number words name' other in absurd (omega (arith, a, b));
      client = λ name' faults' other. let a = help_number words is in let b = nbd_number words name' faults' other in absurd (omega (arith, a, b));
      mirror = λ a' b' other. let a = help_number words is in let b = mirror_number words a' b' other in absurd (omega (arith, a, b));
    }

    -- the version is told
    pub of_version : IsVersion words → TellsText old new VERSION.now status → Promises bytes_of past_of knows old new status words
    of_version is keeps = record {
      memory = remembers status of;
      usage = has_form words status of (inr (inr (inr (inl is))));
      untouched = may_touch old new status of;
      causes = causes;
      help = λ other. let a = version_number words is in let b = help_number words other in absurd (omega (arith, a, b));
      version = λ other. keeps;
      script = λ kind' name' other. absurd (not_served words 2349 (version_number words is) (λ e. omega (arith, e)) (λ e. omega (arith, e)) kind' name' other);
      drawn = λ name' seed' other. let a = version_number words is in let b = drawn_number words name' seed' other in absurd (omega (arith, a, b));
      audit = λ name' other. let a = version_number words is in let b = audit_number words name' other in absurd (omega (arith, a, b));
      check = λ name' other. let a = version_number words is in let b = check_number words name' other in absurd (omega (arith, a, b));
      client = λ name' faults' other. let a = version_number words is in let b = nbd_number words name' faults' other in absurd (omega (arith, a, b));
      mirror = λ a' b' other. let a = version_number words is in let b = mirror_number words a' b' other in absurd (omega (arith, a, b));
    }

    -- a script runs
    pub of_script : (kind : LayoutKind) (name : List ℕ) → IsServedOf kind name words → RunsScript bytes_of past_of knows old new status kind name → Promises bytes_of past_of knows old new status words
    of_script kind name is keeps = record {
      memory = remembers status of;
      usage = has_form words status of (inl (kind, (name, is)));
      untouched = may_touch old new status of;
      causes = causes;
      help = λ other. absurd (not_served words 1581 (help_number words other) (λ e. omega (arith, e)) (λ e. omega (arith, e)) kind name is);
      version = λ other. absurd (not_served words 2349 (version_number words other) (λ e. omega (arith, e)) (λ e. omega (arith, e)) kind name is);
      script = λ kind' name' other. let same = one_served words kind kind' name name' is other in
          subst (λ (n : List ℕ). RunsScript bytes_of past_of knows old new status kind' n) same.1 (subst (λ (k : LayoutKind). RunsScript bytes_of past_of knows old new status k name) same.0 keeps);
      drawn = λ name' seed' other. absurd (not_served words 2151 (drawn_number words name' seed' other) (λ e. omega (arith, e)) (λ e. omega (arith, e)) kind name is);
      audit = λ name' other. absurd (not_served words 1377 (audit_number words name' other) (λ e. omega (arith, e)) (λ e. omega (arith, e)) kind name is);
      check = λ name' other. absurd (not_served words 1379 (check_number words name' other) (λ e. omega (arith, e)) (λ e. omega (arith, e)) kind name is);
      client = λ name' faults' other. absurd (not_served words 878 (nbd_number words name' faults' other) (λ e. omega (arith, e)) (λ e. omega (arith, e)) kind name is);
      mirror = λ a' b' other. absurd (not_served words 1645 (mirror_number words a' b' other) (λ e. omega (arith, e)) (λ e. omega (arith, e)) kind name is);
    }

    -- a drawn script runs
    pub of_drawn : (name : List ℕ) (seed : ℕ) → IsGenerateOf name seed words → RunsDrawn bytes_of past_of knows old new status name seed → Promises bytes_of past_of knows old new status words
    of_drawn name seed is keeps = record {
      memory = remembers status of;
      usage = has_form words status of (inr (inl (name, seed, is)));
      untouched = may_touch old new status of;
      causes = causes;
      help = λ other. let a = drawn_number words name seed is in let b = help_number words other in absurd (omega (arith, a, b));
      version = λ other. let a = drawn_number words name seed is in let b = version_number words other in absurd (omega (arith, a, b));
      script = λ kind' name' other. absurd (not_served words 2151 (drawn_number words name seed is) (λ e. omega (arith, e)) (λ e. omega (arith, e)) kind' name' other);
      drawn = λ name' seed' other. let same = one_generate words name name' seed seed' is other in
          subst (λ (n : List ℕ). RunsDrawn bytes_of past_of knows old new status n seed') same.0 (subst (λ (s : ℕ). RunsDrawn bytes_of past_of knows old new status name s) same.1 keeps);
      audit = λ name' other. let a = drawn_number words name seed is in let b = audit_number words name' other in absurd (omega (arith, a, b));
      check = λ name' other. let a = drawn_number words name seed is in let b = check_number words name' other in absurd (omega (arith, a, b));
      client = λ name' faults' other. let a = drawn_number words name seed is in let b = nbd_number words name' faults' other in absurd (omega (arith, a, b));
      mirror = λ a' b' other. let a = drawn_number words name seed is in let b = mirror_number words a' b' other in absurd (omega (arith, a, b));
    }

    -- an image is told
    pub of_audit : (name : List ℕ) → IsAuditOf name words → Audits bytes_of old new knows name status → Promises bytes_of past_of knows old new status words
    of_audit name is keeps = record {
      memory = remembers status of;
      usage = has_form words status of (inr (inr (inr (inr (inl (name, inl is))))));
      untouched = may_touch old new status of;
      causes = causes;
      help = λ other. let a = audit_number words name is in let b = help_number words other in absurd (omega (arith, a, b));
      version = λ other. let a = audit_number words name is in let b = version_number words other in absurd (omega (arith, a, b));
      script = λ kind' name' other. absurd (not_served words 1377 (audit_number words name is) (λ e. omega (arith, e)) (λ e. omega (arith, e)) kind' name' other);
      drawn = λ name' seed' other. let a = audit_number words name is in let b = drawn_number words name' seed' other in absurd (omega (arith, a, b));
      audit = λ name' other. subst (λ (n : List ℕ). Audits bytes_of old new knows n status) (one_name words (codes "audit") (codes "audit") name name' is other) keeps;
      check = λ name' other. let a = audit_number words name is in let b = check_number words name' other in absurd (omega (arith, a, b));
      client = λ name' faults' other. let a = audit_number words name is in let b = nbd_number words name' faults' other in absurd (omega (arith, a, b));
      mirror = λ a' b' other. let a = audit_number words name is in let b = mirror_number words a' b' other in absurd (omega (arith, a, b));
    }

    -- a text is checked
    pub of_check : (name : List ℕ) → IsCheckOf name words → Checks bytes_of old new knows name status → Promises bytes_of past_of knows old new status words
    of_check name is keeps = record {
      memory = remembers status of;
      usage = has_form words status of (inr (inr (inr (inr (inl (name, inr is))))));
      untouched = may_touch old new status of;
      causes = causes;
      help = λ other. let a = check_number words name is in let b = help_number words other in absurd (omega (arith, a, b));
      version = λ other. let a = check_number words name is in let b = version_number words other in absurd (omega (arith, a, b));
      script = λ kind' name' other. absurd (not_served words 1379 (check_number words name is) (λ e. omega (arith, e)) (λ e. omega (arith, e)) kind' name' other);
      drawn = λ name' seed' other. let a = check_number words name is in let b = drawn_number words name' seed' other in absurd (omega (arith, a, b));
      audit = λ name' other. let a = check_number words name is in let b = audit_number words name' other in absurd (omega (arith, a, b));
      check = λ name' other. subst (λ (n : List ℕ). Checks bytes_of old new knows n status) (one_name words (codes "check") (codes "check") name name' is other) keeps;
      client = λ name' faults' other. let a = check_number words name is in let b = nbd_number words name' faults' other in absurd (omega (arith, a, b));
      mirror = λ a' b' other. let a = check_number words name is in let b = mirror_number words a' b' other in absurd (omega (arith, a, b));
    }

    -- a client is served
    pub of_client : (name : List ℕ) (asked : List (List ℕ)) → AsksForSession name asked words
        → ((faults : List Line) → AreFaultWords asked faults → ServesClient bytes_of past_of knows old new status name faults)
        → Promises bytes_of past_of knows old new status words
    of_client name asked is keeps = record {
      memory = remembers status of;
      usage = has_form words status of (inr (inr (inr (inr (inr (inl (name, is.faults, whole)))))));
      untouched = may_touch old new status of;
      causes = causes;
      help = λ other. let a = here in let b = help_number words other in absurd (omega (arith, a, b));
      version = λ other. let a = here in let b = version_number words other in absurd (omega (arith, a, b));
      script = λ kind' name' other. absurd (not_served words 878 here (λ e. omega (arith, e)) (λ e. omega (arith, e)) kind' name' other);
      drawn = λ name' seed' other. let a = here in let b = drawn_number words name' seed' other in absurd (omega (arith, a, b));
      audit = λ name' other. let a = here in let b = audit_number words name' other in absurd (omega (arith, a, b));
      check = λ name' other. let a = here in let b = check_number words name' other in absurd (omega (arith, a, b));
      client = λ name' faults' other.
          let same : codes "nbd" ∷ name ∷ asked ≡ codes "nbd" ∷ name' ∷ other.0 = sym is.words_are ∙ other.1 in
          subst (λ (n : List ℕ). ServesClient bytes_of past_of knows old new status n faults') (ap (λ (l : List (List ℕ)). get_or l 1 []) same)
          (keeps faults' (subst (λ (l : List (List ℕ)). AreFaultWords l faults') (sym (ap (λ (l : List (List ℕ)). drop 2 l) same)) other.2));
      mirror = λ a' b' other. let a = here in let b = mirror_number words a' b' other in absurd (omega (arith, a, b));
    } where
      whole : IsNbdOf name is.faults words
      whole = (asked, is.words_are, is.read)

      here : number words ≡ 878
      here = nbd_number words name is.faults whole

    -- a script for a mirror runs
    pub of_mirror : (a b : List ℕ) → IsMirrorOf a b words → RunsMirror bytes_of past_of knows old new status a b
        → Promises bytes_of past_of knows old new status words
    of_mirror a b is keeps = record {
      memory = remembers status of;
      usage = has_form words status of (inr (inr (inr (inr (inr (inr (a, b, is)))))));
      untouched = may_touch old new status of;
      causes = causes;
      help = λ other. let n = mirror_number words a b is in let m = help_number words other in absurd (omega (arith, n, m));
      version = λ other. let n = mirror_number words a b is in let m = version_number words other in absurd (omega (arith, n, m));
      script = λ kind' name' other. absurd (not_served words 1645 (mirror_number words a b is) (λ e. omega (arith, e)) (λ e. omega (arith, e)) kind' name' other);
      drawn = λ name' seed' other. let n = mirror_number words a b is in let m = drawn_number words name' seed' other in absurd (omega (arith, n, m));
      audit = λ name' other. let n = mirror_number words a b is in let m = audit_number words name' other in absurd (omega (arith, n, m));
      check = λ name' other. let n = mirror_number words a b is in let m = check_number words name' other in absurd (omega (arith, n, m));
      client = λ name' faults' other. let n = mirror_number words a b is in let m = nbd_number words name' faults' other in absurd (omega (arith, n, m));
      mirror = λ a' b' other.
          let same : codes "mirror" ∷ a ∷ b ∷ [] ≡ codes "mirror" ∷ a' ∷ b' ∷ [] = sym is.0 ∙ other.0 in
          subst (λ (n : List ℕ). RunsMirror bytes_of past_of knows old new status n b') (ap (λ (l : List (List ℕ)). get_or l 1 []) same)
          (subst (λ (n : List ℕ). RunsMirror bytes_of past_of knows old new status a n) (ap (λ (l : List (List ℕ)). get_or l 2 []) same) keeps);
    }
