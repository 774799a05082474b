-- By which of the images were opened.
use Rattle.std.proofs.Common.{refl}
use Rattle.ram_outside.specs.Seen.{seen_opener}
use Rattle.ram_script.specs.Around.{around}
use Rattle.ram_mirrored.proofs.Counted.{second_count}
use Rattle.ram_mirrored.proofs.Closing.{first_unopened, second_unopened, both_counts, runs_both}
use Rattle.ram_mirrored.proofs.running.mirror_images.Goals as goal

pub returns-in-Failed-clause-keeps : goal.returns-in-Failed-clause-keeps
returns-in-Failed-clause-keeps g c =
    first_unopened g.O.Image.Image.bytes g.O.Image.Image.past g.O.Opener.returned_known
    (around g.T.Conversation g.T.Sink.Sink g.O.Opener c.args.talk.now c.args.opener.now) (around g.T.Conversation g.T.Sink.Sink g.O.Opener c.args.talk.now c.open.new.self)
    c.args.a.now c.args.b.now refl refl refl c.in-Failed.ensures

pub returns-in-Failed-open-clause-causes : goal.returns-in-Failed-open-clause-causes
returns-in-Failed-open-clause-causes g c = record {
  source = refl;
  sink = refl;
  image = second_count (g.O.Opener.faults c.args.opener.now) (g.O.Opener.faults c.open.new.self) (g.O.Opener.faults c.open-2.new.self) (g.O.Opener.faults c.close.new.self)
      (g.O.Image.Image.faults c.in-Image.image) c.in-Image.ensures.count c.in-Image.ensures.unfailed c.in-Failed-open.ensures.count c.close.ensures.count;
}

pub returns-in-Failed-open-clause-keeps : goal.returns-in-Failed-open-clause-keeps
returns-in-Failed-open-clause-keeps g c =
    second_unopened g.O.Image.Image.bytes g.O.Image.Image.past g.O.Opener.returned_known
    (around g.T.Conversation g.T.Sink.Sink g.O.Opener c.args.talk.now c.args.opener.now) (around g.T.Conversation g.T.Sink.Sink g.O.Opener c.args.talk.now c.close.new.self)
    c.args.a.now c.args.b.now refl refl refl g.O.Image.Image.faults c.in-Image.image (seen_opener g.O.Opener c.open.new.self) (seen_opener g.O.Opener c.open-2.new.self)
    c.in-Image.ensures c.in-Failed-open.ensures c.close.ensures

pub returns-in-Image-open-clause-causes : goal.returns-in-Image-open-clause-causes
returns-in-Image-open-clause-causes g c =
    both_counts g.O.Image.Image.bytes g.O.Image.Image.past g.O.Opener.returned_known
    (around g.T.Conversation g.T.Sink.Sink g.O.Opener c.args.talk.now c.args.opener.now) (around g.T.Conversation g.T.Sink.Sink g.O.Opener c.serve_both-first.new.talk c.close-in-Image-open-2.new.self)
    c.args.a.now c.args.b.now g.O.Image.Image.faults g.O.Image.Image.laws c.in-Image.image c.in-Image-open.second c.serve_both-first.result.0 c.serve_both-first.result.1
    (seen_opener g.O.Opener c.open.new.self) (seen_opener g.O.Opener c.open-2.new.self) (seen_opener g.O.Opener c.close-in-Image-open.new.self)
    c.in-Image.ensures c.in-Image-open.ensures c.close-in-Image-open.ensures c.close-in-Image-open-2.ensures refl refl
    c.serve_both-first.result.2 c.serve_both-first.ensures.counts

pub returns-in-Image-open-clause-keeps : goal.returns-in-Image-open-clause-keeps
returns-in-Image-open-clause-keeps g c =
    runs_both g.O.Image.Image.bytes g.O.Image.Image.past g.O.Opener.returned_known
    (around g.T.Conversation g.T.Sink.Sink g.O.Opener c.args.talk.now c.args.opener.now) (around g.T.Conversation g.T.Sink.Sink g.O.Opener c.serve_both-first.new.talk c.close-in-Image-open-2.new.self)
    c.args.a.now c.args.b.now g.O.Image.Image.faults g.O.Image.Image.laws c.in-Image.image c.in-Image-open.second c.serve_both-first.result.0 c.serve_both-first.result.1
    (seen_opener g.O.Opener c.open.new.self) (seen_opener g.O.Opener c.open-2.new.self) (seen_opener g.O.Opener c.close-in-Image-open.new.self)
    c.in-Image.ensures c.in-Image-open.ensures c.close-in-Image-open.ensures c.close-in-Image-open-2.ensures refl refl
    c.serve_both-first.result.2 c.serve_both-first.ensures.stands c.serve_both-first.ensures.counts c.serve_both-first.ensures.asks
