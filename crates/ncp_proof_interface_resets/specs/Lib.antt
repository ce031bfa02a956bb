pub mod ResetRuns
