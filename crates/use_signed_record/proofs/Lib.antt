mod Parts
mod Records
