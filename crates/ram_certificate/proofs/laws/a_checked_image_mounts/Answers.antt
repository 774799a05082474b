use Rattle.ram_certificate.proofs.NextRun.{checked_mounts}
use Rattle.ram_certificate.proofs.laws.a_checked_image_mounts.Goals as goal

pub returns : goal.returns
returns c held payload data_in told lists s t outcome are says first kind step =
    checked_mounts held told lists are says s t payload data_in outcome first kind step
