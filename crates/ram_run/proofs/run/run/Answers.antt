use Rattle.std.specs.Borrow.{Bor}
use Rattle.std.proofs.Common.{refl, sym, ◌∙◌, inl, inr, ℕ, List, map}
use Rattle.ram_script.specs.Around.{IsNotOpened, around}
use Rattle.ram_script.specs.Opened.{aftermath_of}
use Rattle.ram_script.proofs.Completes.{completes}
use Rattle.ram_summary.specs.Generating.{beside}
use Rattle.ram_machine.specs.declared.status.Status.TheVariants as statuses
use Rattle.ram_client.proofs.Statuses.{session_of_run, session_counts}
use Rattle.ram_run.specs.Words.{IsServedOf, IsGenerateOf, IsAuditOf, IsCheckOf, AsksForSession, IsMirrorOf, IsHelp, IsVersion}
use Rattle.ram_run.proofs.Promised.{text_counts, of_none, of_help, of_version, of_script, of_drawn, of_audit, of_check, of_client, of_mirror}
use Rattle.ram_run.proofs.PromisedByRun.{promised_by_run}
use Rattle.ram_run.proofs.Heard.{heard_of, around_with, promised_around}
use Rattle.ram_run.proofs.run.run.Goals as goal

pub of_script-rooms-requires : goal.of_script-rooms-requires
of_script-rooms-requires g c =
    let texts : List (List ℕ) = map (λ (word : Bor (List ℕ)). word.now) c.args.words.now in
    let told : IsServedOf c.in-Some-Run.kind c.in-Some-Run.name.now texts = rw (c.in-Some-Run.is, c.in-Some-Run.field-0-is) at c.form_of.ensures in
    c.requires.rooms.served c.in-Some-Run.kind (c.in-Some-Run.name.now, told)

pub run_image-requires : goal.run_image-requires
run_image-requires g c =
    let ready = c.of_script-rooms.ensures in
    record { ready = record { fresh = ready.fresh; room = ready.room; empty = ready.empty; kind_is = refl } }

pub of_number-requires : goal.of_number-requires
of_number-requires g c =
    let texts : List (List ℕ) = map (λ (word : Bor (List ℕ)). word.now) c.args.words.now in
    let told : IsGenerateOf c.in-Some-Generate.name.now c.in-Some-Generate.seed texts = rw (c.in-Some-Generate.is, c.in-Some-Generate.field-0-is) at c.form_of.ensures in
    c.requires.rooms.generate (c.in-Some-Generate.name.now, c.in-Some-Generate.seed, told)

pub of_certificate-requires : goal.of_certificate-requires
of_certificate-requires g c =
    let texts : List (List ℕ) = map (λ (word : Bor (List ℕ)). word.now) c.args.words.now in
    let told : IsAuditOf c.in-Some-Audit.name.now texts = rw (c.in-Some-Audit.is, c.in-Some-Audit.field-0-is) at c.form_of.ensures in
    c.requires.rooms.certificate (c.in-Some-Audit.name.now, inl told)

pub of_certificate-requires-in-Some-Check : goal.of_certificate-requires-in-Some-Check
of_certificate-requires-in-Some-Check g c =
    let texts : List (List ℕ) = map (λ (word : Bor (List ℕ)). word.now) c.args.words.now in
    let told : IsCheckOf c.in-Some-Check.name.now texts = rw (c.in-Some-Check.is, c.in-Some-Check.field-0-is) at c.form_of.ensures in
    c.requires.rooms.certificate (c.in-Some-Check.name.now, inr told)

pub returns-in-Some-Run : goal.returns-in-Some-Run
returns-in-Some-Run g c =
    let texts : List (List ℕ) = map (λ (word : Bor (List ℕ)). word.now) c.args.words.now in
    let told : IsServedOf c.in-Some-Run.kind c.in-Some-Run.name.now texts = rw (c.in-Some-Run.is, c.in-Some-Run.field-0-is) at c.form_of.ensures in
    let before = around g.T.Conversation g.T.Sink.Sink g.O.Opener c.args.talk.now c.args.opener.now in
    let after = around g.T.Conversation g.T.Sink.Sink g.O.Opener c.run_image.new.talk c.run_image.new.opener in
    let kind = sym c.of_script-rooms.ensures.kind_is in
    let ran = c.run_image.ensures in
    record {
      keeps = of_script g.O.Image.Image.bytes g.O.Image.Image.past g.O.Opener.returned_known before after c.run_image.result texts ran.other ran.causes c.in-Some-Run.kind c.in-Some-Run.name.now told (record {
        asks = ran.asks;
        run = λ first is known. ran.run first (is ∙ kind) known;
        talks = λ first is known. ran.talks first (is ∙ kind) known;
        promise = λ first is known. promised_by_run g.O.Image.Image.bytes first before after g.O.Opener.returned_known c.run_image.result known (ran.run first (is ∙ kind) known);
        completes = λ first is known language begins none. completes first language begins before.counts after.counts none
            (aftermath_of g.O.Image.Image.bytes after) (IsNotOpened before after) c.run_image.result ran.causes (ran.run first (is ∙ kind) known);
        fails = ran.fails;
      });
    }

pub returns-in-Some-Generate : goal.returns-in-Some-Generate
returns-in-Some-Generate g c =
    let texts : List (List ℕ) = map (λ (word : Bor (List ℕ)). word.now) c.args.words.now in
    let told : IsGenerateOf c.in-Some-Generate.name.now c.in-Some-Generate.seed texts = rw (c.in-Some-Generate.is, c.in-Some-Generate.field-0-is) at c.form_of.ensures in
    let heard = heard_of g.T.Conversation c.args.talk.now in
    let before = beside heard g.T.Sink.Sink g.O.Opener c.report_mut.result.now c.args.opener.now in
    let after = beside heard g.T.Sink.Sink g.O.Opener c.generate_image.new.report c.generate_image.new.opener in
    let laws = g.T.Conversation.laws in
    let ran = c.generate_image.ensures in
    record {
      keeps = promised_around g.O.Image.Image.bytes g.O.Image.Image.past g.O.Opener.returned_known _ _ _ _ c.generate_image.result texts
          (around_with g.T.Conversation g.T.Sink.Sink g.O.Opener c.args.talk.now c.args.talk.now c.report_mut.result.now c.args.opener.now refl refl refl (sym c.report_mut.ensures.sink))
          (around_with g.T.Conversation g.T.Sink.Sink g.O.Opener c.args.talk.now (g.T.Conversation.with_report c.args.talk.now c.generate_image.new.report) c.generate_image.new.report c.generate_image.new.opener
          (laws.same_left _ _) (laws.same_faults _ _) (laws.same_asked _ _) (laws.report_is _ _))
          (of_drawn g.O.Image.Image.bytes g.O.Image.Image.past g.O.Opener.returned_known before after c.generate_image.result texts ran.other (ran.causes heard) c.in-Some-Generate.name.now c.in-Some-Generate.seed told (record {
            asks = record { asks = ran.asks heard; left = refl; asked = refl; count = refl };
            generate = ran.generate heard;
            fails = ran.fails heard;
          }));
    }

pub returns-in-Some-Audit : goal.returns-in-Some-Audit
returns-in-Some-Audit g c =
    let texts : List (List ℕ) = map (λ (word : Bor (List ℕ)). word.now) c.args.words.now in
    let told : IsAuditOf c.in-Some-Audit.name.now texts = rw (c.in-Some-Audit.is, c.in-Some-Audit.field-0-is) at c.form_of.ensures in
    let heard = heard_of g.T.Conversation c.args.talk.now in
    let before = beside heard g.T.Sink.Sink g.O.Opener c.report_mut-in-Some-Audit.result.now c.args.opener.now in
    let after = beside heard g.T.Sink.Sink g.O.Opener c.audit_image.new.report c.audit_image.new.opener in
    let laws = g.T.Conversation.laws in
    let ran = c.audit_image.ensures in
    record {
      keeps = promised_around g.O.Image.Image.bytes g.O.Image.Image.past g.O.Opener.returned_known _ _ _ _ c.audit_image.result texts
          (around_with g.T.Conversation g.T.Sink.Sink g.O.Opener c.args.talk.now c.args.talk.now c.report_mut-in-Some-Audit.result.now c.args.opener.now refl refl refl (sym c.report_mut-in-Some-Audit.ensures.sink))
          (around_with g.T.Conversation g.T.Sink.Sink g.O.Opener c.args.talk.now (g.T.Conversation.with_report c.args.talk.now c.audit_image.new.report) c.audit_image.new.report c.audit_image.new.opener
          (laws.same_left _ _) (laws.same_faults _ _) (laws.same_asked _ _) (laws.report_is _ _))
          (of_audit g.O.Image.Image.bytes g.O.Image.Image.past g.O.Opener.returned_known before after c.audit_image.result texts ran.other (ran.causes heard) c.in-Some-Audit.name.now told (record {
            asks = record { asks = ran.asks heard; left = refl; asked = refl; count = refl };
            tells = ran.tells heard;
          }));
    }

pub returns-in-Some-Check : goal.returns-in-Some-Check
returns-in-Some-Check g c =
    let texts : List (List ℕ) = map (λ (word : Bor (List ℕ)). word.now) c.args.words.now in
    let told : IsCheckOf c.in-Some-Check.name.now texts = rw (c.in-Some-Check.is, c.in-Some-Check.field-0-is) at c.form_of.ensures in
    let before = around g.T.Conversation g.T.Sink.Sink g.O.Opener c.args.talk.now c.args.opener.now in
    let after = around g.T.Conversation g.T.Sink.Sink g.O.Opener c.check_image.new.talk c.check_image.new.opener in
    let ran = c.check_image.ensures in
    record { keeps = of_check g.O.Image.Image.bytes g.O.Image.Image.past g.O.Opener.returned_known before after c.check_image.result texts ran.other ran.causes c.in-Some-Check.name.now told (record { asks = ran.asks; tells = ran.tells }) }

pub returns-in-Some-Help : goal.returns-in-Some-Help
returns-in-Some-Help g c =
    let texts : List (List ℕ) = map (λ (word : Bor (List ℕ)). word.now) c.args.words.now in
    let told : IsHelp texts = rw (c.in-Some-Help.is, c.in-Some-Help.field-0-is) at c.form_of.ensures in
    let heard = heard_of g.T.Conversation c.args.talk.now in
    let before = beside heard g.T.Sink.Sink g.O.Opener c.report_mut-in-Some-Help.result.now c.args.opener.now in
    let after = beside heard g.T.Sink.Sink g.O.Opener c.write_text.new.report c.args.opener.now in
    let laws = g.T.Conversation.laws in
    let wrote = c.write_text.ensures in
    record {
      keeps = promised_around g.O.Image.Image.bytes g.O.Image.Image.past g.O.Opener.returned_known _ _ _ _ c.write_text.result texts
          (around_with g.T.Conversation g.T.Sink.Sink g.O.Opener c.args.talk.now c.args.talk.now c.report_mut-in-Some-Help.result.now c.args.opener.now refl refl refl (sym c.report_mut-in-Some-Help.ensures.sink))
          (around_with g.T.Conversation g.T.Sink.Sink g.O.Opener c.args.talk.now (g.T.Conversation.with_report c.args.talk.now c.write_text.new.report) c.write_text.new.report c.args.opener.now
          (laws.same_left _ _) (laws.same_faults _ _) (laws.same_asked _ _) (laws.report_is _ _))
          (of_help g.O.Image.Image.bytes g.O.Image.Image.past g.O.Opener.returned_known before after c.write_text.result texts wrote.other
          (text_counts heard.faults (g.O.Opener.faults c.args.opener.now) _ _ c.write_text.result wrote.count) told
          (record { unread = refl; unasked = refl; unopened = refl }, wrote.writes));
    }

pub returns-in-Some-Version : goal.returns-in-Some-Version
returns-in-Some-Version g c =
    let texts : List (List ℕ) = map (λ (word : Bor (List ℕ)). word.now) c.args.words.now in
    let told : IsVersion texts = rw (c.in-Some-Version.is, c.in-Some-Version.field-0-is) at c.form_of.ensures in
    let heard = heard_of g.T.Conversation c.args.talk.now in
    let before = beside heard g.T.Sink.Sink g.O.Opener c.report_mut-in-Some-Version.result.now c.args.opener.now in
    let after = beside heard g.T.Sink.Sink g.O.Opener c.write_text-in-Some-Version.new.report c.args.opener.now in
    let laws = g.T.Conversation.laws in
    let wrote = c.write_text-in-Some-Version.ensures in
    record {
      keeps = promised_around g.O.Image.Image.bytes g.O.Image.Image.past g.O.Opener.returned_known _ _ _ _ c.write_text-in-Some-Version.result texts
          (around_with g.T.Conversation g.T.Sink.Sink g.O.Opener c.args.talk.now c.args.talk.now c.report_mut-in-Some-Version.result.now c.args.opener.now refl refl refl (sym c.report_mut-in-Some-Version.ensures.sink))
          (around_with g.T.Conversation g.T.Sink.Sink g.O.Opener c.args.talk.now (g.T.Conversation.with_report c.args.talk.now c.write_text-in-Some-Version.new.report) c.write_text-in-Some-Version.new.report c.args.opener.now
          (laws.same_left _ _) (laws.same_faults _ _) (laws.same_asked _ _) (laws.report_is _ _))
          (of_version g.O.Image.Image.bytes g.O.Image.Image.past g.O.Opener.returned_known before after c.write_text-in-Some-Version.result texts wrote.other
          (text_counts heard.faults (g.O.Opener.faults c.args.opener.now) _ _ c.write_text-in-Some-Version.result wrote.count) told
          (record { unread = refl; unasked = refl; unopened = refl }, wrote.writes));
    }

pub returns-in-None : goal.returns-in-None
returns-in-None g c =
    let texts : List (List ℕ) = map (λ (word : Bor (List ℕ)). word.now) c.args.words.now in
    let before = around g.T.Conversation g.T.Sink.Sink g.O.Opener c.args.talk.now c.args.opener.now in
    let none = rw c.in-None.is at c.form_of.ensures in
    record { keeps = of_none g.O.Image.Image.bytes g.O.Image.Image.past g.O.Opener.returned_known before before statuses.Usage texts refl none refl }

pub of_session-requires : goal.of_session-requires
of_session-requires g c =
    let texts : List (List ℕ) = map (λ (word : Bor (List ℕ)). word.now) c.args.words.now in
    let told : AsksForSession c.in-Some-Nbd.name.now (map (λ (word : Bor (List ℕ)). word.now) c.in-Some-Nbd.faults.now) texts =
    rw (c.in-Some-Nbd.is, c.in-Some-Nbd.field-0-is) at c.form_of.ensures in
    c.requires.rooms.session (c.in-Some-Nbd.name.now, told.faults, (_, told.words_are, told.read))

pub serve_image-requires : goal.serve_image-requires
serve_image-requires g c =
    let texts : List (List ℕ) = map (λ (word : Bor (List ℕ)). word.now) c.args.words.now in
    let told : AsksForSession c.in-Some-Nbd.name.now (map (λ (word : Bor (List ℕ)). word.now) c.in-Some-Nbd.faults.now) texts =
    rw (c.in-Some-Nbd.is, c.in-Some-Nbd.field-0-is) at c.form_of.ensures in
    record { ready = c.of_session.ensures; reads = (told.faults, told.read) }

pub returns-in-Some-Nbd : goal.returns-in-Some-Nbd
returns-in-Some-Nbd g c =
    let texts : List (List ℕ) = map (λ (word : Bor (List ℕ)). word.now) c.args.words.now in
    let told : AsksForSession c.in-Some-Nbd.name.now (map (λ (word : Bor (List ℕ)). word.now) c.in-Some-Nbd.faults.now) texts =
    rw (c.in-Some-Nbd.is, c.in-Some-Nbd.field-0-is) at c.form_of.ensures in
    let before = around g.T.Conversation g.T.Sink.Sink g.O.Opener c.args.talk.now c.args.opener.now in
    let after = around g.T.Conversation g.T.Sink.Sink g.O.Opener c.serve_image.new.talk c.serve_image.new.opener in
    let ran = c.serve_image.ensures in
    record {
      keeps = of_client g.O.Image.Image.bytes g.O.Image.Image.past g.O.Opener.returned_known before after c.serve_image.result texts
          (session_of_run c.serve_image.result ran.other)
          (session_counts before.counts after.counts c.serve_image.result (ran.keeps told.faults told.read).counts)
          c.in-Some-Nbd.name.now _ told ran.keeps;
    }

pub of_mirror-requires : goal.of_mirror-requires
of_mirror-requires g c =
    let texts : List (List ℕ) = map (λ (word : Bor (List ℕ)). word.now) c.args.words.now in
    let told : IsMirrorOf c.in-Some-Mirror.a.now c.in-Some-Mirror.b.now texts = rw (c.in-Some-Mirror.is, c.in-Some-Mirror.field-0-is) at c.form_of.ensures in
    c.requires.rooms.mirror (c.in-Some-Mirror.a.now, c.in-Some-Mirror.b.now, told)

pub returns-in-Some-Mirror : goal.returns-in-Some-Mirror
returns-in-Some-Mirror g c =
    let texts : List (List ℕ) = map (λ (word : Bor (List ℕ)). word.now) c.args.words.now in
    let told : IsMirrorOf c.in-Some-Mirror.a.now c.in-Some-Mirror.b.now texts = rw (c.in-Some-Mirror.is, c.in-Some-Mirror.field-0-is) at c.form_of.ensures in
    let before = around g.T.Conversation g.T.Sink.Sink g.O.Opener c.args.talk.now c.args.opener.now in
    let after = around g.T.Conversation g.T.Sink.Sink g.O.Opener c.mirror_images.new.talk c.mirror_images.new.opener in
    let ran = c.mirror_images.ensures in
    record {
      keeps = of_mirror g.O.Image.Image.bytes g.O.Image.Image.past g.O.Opener.returned_known before after c.mirror_images.result texts
          ran.other ran.causes c.in-Some-Mirror.a.now c.in-Some-Mirror.b.now told ran.keeps;
    }
