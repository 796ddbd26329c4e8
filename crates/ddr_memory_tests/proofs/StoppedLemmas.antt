-- The end of a worker that was stopped and run again.
use Rattle.std.proofs.Common.{Option, Some, None, IfSome, ◌∙◌}
use Rattle.ddr_workers.specs.Worker.{WorkerState, WorkerEnded, IsEndOf, IsSameWorker}

-- the end of a worker that stayed the one that it was
work_of_same : (s t : WorkerState) (e : WorkerEnded) → IsSameWorker s t → IsEndOf t e → IsEndOf s e
work_of_same s t e same ended = record {
  id = ended.id ∙ same.id;
  number = ended.number ∙ same.number;
  config = ended.config ∙ same.config;
  start = ended.start ∙ same.start;
  keeps = ended.keeps ∙ same.keeps;
  requests = ended.requests ∙ same.requests;
  completions = ended.completions ∙ same.completions;
}

pub end_of_stopped : (o : Option WorkerEnded) (s t : WorkerState) → IsSameWorker s t → IfSome o (IsEndOf t) → IfSome o (IsEndOf s)
end_of_stopped (Some e) s t same ended = work_of_same s t e same ended
end_of_stopped None s t same ended = tt
